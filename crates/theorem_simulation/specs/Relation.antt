-- What a state of the source's run and a state of the abstract machine have to do with each other. Definitions, and the ways of the memory.
-- It rests on meaning's Run, rules' Code, and Straight.
use Rattle.std.specs.Prelude.{◌≡◌, Bool, true, List, [], ◌∷◌, ℕ, zero, suc, ◌+◌, ◌≤◌, ◌<◌, get_or, set, length}
use Rattle.std.proofs.Common.{sym, ap, ◌∙◌, arith, length-set, get_or-set_same, get_or-set_other}
use Rattle.std.proofs.Math.Option.{Option, none, some}
use Rattle.std.proofs.Math.Decide.{ℕ_discrete}
use Rattle.arm_word.specs.Word.{modulus}
use Rattle.arm_word.specs.Access.{Access}
use Rattle.arm_encoding.specs.declared.Instr.{Instr}
use Rattle.arm_encoding.specs.declared.Instr.TheVariants.{Svc, Bl}
use Rattle.x_program.specs.Tree.{Array, Declaration, data_words, array_word, Process, loop}
use Rattle.x_program.specs.ProgramDepth.{depth, deepest}
use Rattle.x_program.specs.Core.{core, core_process}
use Rattle.x_program.specs.Resolved.{DeclaredVariable, Resolved, ResolvedProcess}
use Rattle.x_meaning.specs.SourceRun.{Item, evaluate, work₁, work₂, check, load, execute, set_variable, store, choose, repeat, End, going, finish, stopped, bad_subscript, State, state, moves}
use Rattle.translate_rules.specs.Blocks.{check_subscript, load_element, work_monadic_code, work_diadic_code, assign_variable, store_element}
use Rattle.translate_rules.specs.ImageCode.{expression_code, choice_code, repeat_code, process_code}
use Rattle.theorem_simulation.specs.Abstract.{registers, Control, Abstract, machine, target}
use Rattle.theorem_simulation.specs.Straight.{Holds, At, advance, address}

-- the declarations, the code, and how many words the stack has
pub record Setting : Type 0 where
  pub declarations : List Declaration
  pub code : List ℕ
  pub stack : ℕ

abbrev pub data_of : Setting → ℕ
data_of E = data_words E.declarations

abbrev pub array_of : Setting → ℕ → Bool
array_of E k = array_word E.declarations k

pub record Limits (E : Setting) : Type 0 where
  pub few_data : data_of E ≤ 8192
  pub short_code : length E.code ≤ 65536
  pub few_words : data_of E + E.stack ≤ 16384

-- ── what is to do can be done ──

-- a process whose names are declared and whose expressions fit the stack above the h words that are on it
pub record Ready (E : Setting) (h : ℕ) (p : Process) : Type 0 where
  pub resolved : ResolvedProcess E.declarations p
  pub shallow : h + deepest p < E.stack

-- an element, by its array's offset and its subscript
pub record Element (E : Setting) (a : Array) (i : ℕ) : Type 0 where
  pub inside : a.offset + i < data_of E
  pub own : array_of E (a.offset + i) ≡ true

-- from this operand stack: the words that each thing takes are there, subscripts were checked, the stack has room
abbrev pub Fits : Setting → List Item → List ℕ → Type 0
Fits E [] s = Unit {0}
Fits E (evaluate e ∷ c) s = Resolved E.declarations e × (length s + depth e ≤ E.stack) × ((w : ℕ) → w < modulus → Fits E c (w ∷ s))
Fits E (work₁ o ∷ c) [] = ⊥
Fits E (work₁ o ∷ c) (x ∷ s) = (w : ℕ) → w < modulus → Fits E c (w ∷ s)
Fits E (work₂ o ∷ c) [] = ⊥
Fits E (work₂ o ∷ c) (y ∷ []) = ⊥
Fits E (work₂ o ∷ c) (y ∷ x ∷ s) = (w : ℕ) → w < modulus → Fits E c (w ∷ s)
Fits E (check a ∷ c) [] = ⊥
Fits E (check a ∷ c) (i ∷ s) = (a.length ≤ 8192) × (i < a.length → Fits E c (i ∷ s))
Fits E (load a ∷ c) [] = ⊥
Fits E (load a ∷ c) (i ∷ s) = Element E a i × ((w : ℕ) → w < modulus → Fits E c (w ∷ s))
Fits E (execute p ∷ c) s = Ready E (length s) p × Fits E c s
Fits E (set_variable v ∷ c) [] = ⊥
Fits E (set_variable v ∷ c) (w ∷ s) = DeclaredVariable E.declarations v × Fits E c s
Fits E (store a ∷ c) [] = ⊥
Fits E (store a ∷ c) (w ∷ []) = ⊥
Fits E (store a ∷ c) (w ∷ i ∷ s) = Element E a i × Fits E c s
Fits E (choose p q ∷ c) [] = ⊥
Fits E (choose p q ∷ c) (w ∷ s) = Ready E (length s) p × Ready E (length s) q × Fits E c s
Fits E (repeat e p ∷ c) [] = ⊥
Fits E (repeat e p ∷ c) (w ∷ s) = Ready E (length s) (loop e p) × Fits E c s

-- ── where it stands in the code ──

-- the code of a thing to do; that of one that unfolds is the code of what it unfolds to
abbrev pub item_code : Item → List Instr
item_code (evaluate e) = expression_code (core e)
item_code (work₁ o) = work_monadic_code o
item_code (work₂ o) = work_diadic_code o
item_code (check a) = check_subscript a.length
item_code (load a) = load_element a.offset
item_code (execute p) = process_code (core_process p)
item_code (set_variable v) = assign_variable v.offset
item_code (store a) = store_element a.offset
item_code (choose p q) = choice_code (process_code (core_process p)) (process_code (core_process q))
item_code (repeat e p) = repeat_code (expression_code (core e)) (process_code (core_process p))

-- a loop's choice knows where the loop starts
abbrev pub ItemAt : List ℕ → Item → ℕ → Type 0
ItemAt code (evaluate e) q = At code q (expression_code (core e))
ItemAt code (work₁ o) q = At code q (work_monadic_code o)
ItemAt code (work₂ o) q = At code q (work_diadic_code o)
ItemAt code (check a) q = At code q (check_subscript a.length)
ItemAt code (load a) q = At code q (load_element a.offset)
ItemAt code (execute p) q = At code q (process_code (core_process p))
ItemAt code (set_variable v) q = At code q (assign_variable v.offset)
ItemAt code (store a) q = At code q (store_element a.offset)
ItemAt code (choose p q₁) q = At code q (choice_code (process_code (core_process p)) (process_code (core_process q₁)))
ItemAt code (repeat e p) q = (q₀ : ℕ) × At code q₀ (process_code (core_process (loop e p))) × (q ≡ advance (expression_code (core e)) q₀)

-- jumps that lead from one place to another
pub data Jumps (code : List ℕ) (q : ℕ) : ℕ → Type 0 where
  there : Jumps code q q
  hop : {pc k : ℕ} → Holds code pc (Bl k) → Jumps code q (target pc k) → Jumps code q pc

-- at pc the code does what is to do
abbrev pub Continues : List ℕ → List Item → ℕ → Type 0
Continues code [] pc = (q : ℕ) × Jumps code q pc × Holds code q (Svc 0)
Continues code (x ∷ c) pc = (q : ℕ) × Jumps code q pc × ItemAt code x q × Continues code c (advance (item_code x) q)

-- The image: "`SVC 0` is finish, `SVC 1` stop, `SVC 2` bad subscript"
abbrev pub Place : Setting → End → List Item → List ℕ → ℕ → Type 0
Place E going c s pc = Continues E.code c pc × Fits E c s
Place E finish c s pc = Holds E.code pc (Svc 0)
Place E stopped c s pc = Holds E.code pc (Svc 1)
Place E bad_subscript c s pc = Holds E.code pc (Svc 2)

-- ── what the memory holds ──

-- the words from k on are the operand stack
abbrev pub Stacked : List (Option ℕ) → ℕ → List ℕ → Type 0
Stacked mem k [] = Unit {0}
Stacked mem k (w ∷ s) = (get_or mem k none ≡ some w) × Stacked mem (suc k) s

pub record Memory (E : Setting) (d s : List ℕ) (k : ℕ) (mem : List (Option ℕ)) : Type 0 where
  pub all : length mem ≡ data_of E + E.stack
  pub declared : length d ≡ data_of E
  pub same : (i : ℕ) → i < data_of E → get_or mem i none ≡ some (get_or d i 0)
  pub stacked : Stacked mem k s
  pub top : k + length s ≡ data_of E + E.stack
  pub low : data_of E ≤ k
  pub words : (i v : ℕ) → get_or mem i none ≡ some v → v < modulus

-- ── the relation ──

pub record Related (E : Setting) (s : State) (m : Abstract) : Type 0 where
  pub d : List ℕ
  pub t : List Access
  pub c : List Item
  pub p : List ℕ
  pub e : End
  pub pc : ℕ
  pub r0 : ℕ
  pub r1 : ℕ
  pub r2 : ℕ
  pub r3 : ℕ
  pub k : ℕ
  pub control : Control
  pub mem : List (Option ℕ)
  pub source : s ≡ state d t c p e
  pub target : m ≡ machine pc (registers r0 r1 r2 r3) (address k) control mem t
  pub place : Place E e c p pc
  pub memory : Memory E d p k mem

-- What demand 3 says of a state of the machine, by its sp, memory and trace: some number of moves gives the trace and the D words, sp is in the stack
pub record Good (E : Setting) (s : State) (sp : ℕ) (mem : List (Option ℕ)) (l : List Access) : Type 0 where
  pub j : ℕ
  pub list : l ≡ (moves j s).trace
  pub words : (i : ℕ) → i < data_of E → get_or mem i none ≡ some (get_or (moves j s).words i 0)
  pub sp_low : address (data_of E) ≤ sp
  pub sp_high : sp ≤ address (data_of E + E.stack)

-- ── ways of the memory ──

stacked_set : (mem : List (Option ℕ)) (s : List ℕ) (k j : ℕ) (v : Option ℕ) → j < k → Stacked mem k s → Stacked (set mem j v) k s
stacked_set mem [] k j v h f = tt
stacked_set mem (w ∷ s) k j v h f = (get_or-set_other mem j k v none (omega arith) ∙ f.0, stacked_set mem s (suc k) j v (omega arith) f.1)

words_set : (mem : List (Option ℕ)) (j v : ℕ) → v < modulus → ((i w : ℕ) → get_or mem i none ≡ some w → w < modulus) → (i w : ℕ) → get_or (set mem j (some v)) i none ≡ some w → w < modulus
words_set [] j v h f i w e = f i w e
words_set (x ∷ xs) zero v h f zero w e = let z : v ≡ w = cc in omega arith
words_set (x ∷ xs) zero v h f (suc i) w e = f (suc i) w e
words_set (x ∷ xs) (suc j) v h f zero w e = f zero w e
words_set (x ∷ xs) (suc j) v h f (suc i) w e = words_set xs j v h (λ i. f (suc i)) i w e

module _ {E : Setting} {d s : List ℕ} {k : ℕ} {mem : List (Option ℕ)} where
  -- a word goes on the stack
  pub pushed : {k₀ : ℕ} (w : ℕ) → w < modulus → data_of E ≤ k → suc k ≡ k₀ → Memory E d s k₀ mem → Memory E d (w ∷ s) k (set mem k (some w))
  pushed {k₀} w h lo e r = record {
    all = length-set mem k (some w) ∙ r.all;
    declared = r.declared;
    same = λ i b. get_or-set_other mem k i (some w) none (omega arith) ∙ r.same i b;
    stacked = (get_or-set_same mem k (some w) none (omega (arith, r.all, r.top)), rw e (stacked_set mem s k₀ k (some w) (omega arith) r.stacked));
    top = omega (arith, r.top);
    low = lo;
    words = words_set mem k w h r.words;
  }

  -- and off
  pub popped : {w : ℕ} → Memory E d (w ∷ s) k mem → Memory E d s (suc k) mem
  popped r = record {
    all = r.all;
    declared = r.declared;
    same = r.same;
    stacked = r.stacked.1;
    top = omega (arith, r.top);
    low = omega (arith, r.low);
    words = r.words;
  }

  -- a declared word takes another
  pub written : (j w : ℕ) → w < modulus → j < data_of E → Memory E d s k mem → Memory E (set d j w) s k (set mem j (some w))
  written j w h lo r = record {
    all = length-set mem j (some w) ∙ r.all;
    declared = length-set d j w ∙ r.declared;
    same = λ i b. at i b (ℕ_discrete i j);
    stacked = stacked_set mem s k j (some w) (omega (arith, r.low)) r.stacked;
    top = r.top;
    low = r.low;
    words = words_set mem j w h r.words;
  }
    where
      at : (i : ℕ) → i < data_of E → Dec (i ≡ j) → get_or (set mem j (some w)) i none ≡ some (get_or (set d j w) i 0)
      at i b (yes e) = rw e (get_or-set_same mem j (some w) none (omega (arith, r.all)) ∙ ap some (sym (get_or-set_same d j w 0 (omega (arith, r.declared)))))
      at i b (no n) = get_or-set_other mem j i (some w) none n ∙ r.same i b ∙ ap some (sym (get_or-set_other d j i w 0 n))
