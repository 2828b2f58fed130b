-- What the abstract machine does, the machine does: one lemma an instruction. Definitions and lemmas; they rest on Abstract and on arm_state's and machine's definitions.
use Rattle.std.proofs.Math.Path.{◌≡◌, refl}
use Rattle.std.proofs.Common.{◌∙◌, arith, get_or-set_same, get_or-set_other, lt-ltb, ltb-true, leb-true}
use Rattle.std.specs.Prelude.{Bool, not, ℕ, ◌+◌, ◌*◌, ◌-◌, ◌%◌, ◌/◌, ◌≤◌, ◌<◌, length, ltb, leb, eqb}
use Rattle.std.proofs.Math.Bool.{true, false}
use Rattle.std.proofs.Math.Option.{Option, none, some}
use mathlib.Core.List.{List, [], ◌∷◌, ◌++◌, append-nil}
use Rattle.std.proofs.Math.Decide.{ℕ_discrete}
use Rattle.std.proofs.Math.ListN.{get_or, set, length-set}
use Rattle.std.proofs.lemmas.Bool.{lt-leb}
use Rattle.arm_word.specs.Choice.{pick}
use Rattle.arm_word.specs.Word.{add}
use Rattle.arm_word.specs.CarryLaws.{sum_plain}
use Rattle.arm_word.specs.Access.{Access, loaded, stored}
use Rattle.arm_encoding.specs.declared.Instr.{Instr}
use Rattle.arm_encoding.specs.declared.Instr.TheVariants.{Shli, Shri, Ashri, Addr, Subr, Movi, Addi, Subi, Ldrpci, Strspi, Ldrspi, Addpci, Addspi, Andr, Xorr, Shl, Shr, Negr, Orr, Mul}
use Rattle.arm_encoding.specs.declared.Instr.TheVariants.{Mvnr, Str, Ldr}
use Rattle.arm_encoding.specs.declared.Instr.TheVariants.{Stri, Ldri, Incsp, Decsp, Svc, Beq, Bne, Bge, Blt, Bu, Bl}
use Rattle.arm_state.specs.State.{base, next, takes, result, flags_of, moves, jump, branch, link}
use Rattle.arm_state.specs.Effects as real
use Rattle.arm_state.specs.Effects.{Effect, done, after, slot_of, execute_of}
use Rattle.arm_state.specs.declared.Flags.{Flags}
use Rattle.arm_state.specs.declared.Machine.{Machine}
use Rattle.arm_machine.specs.Trace.{listed}
use Rattle.theorem_simulation.specs.Demand3.{Each}
use Rattle.theorem_simulation.specs.Abstract.{get, Control, tests, Abstract, machine, memory_of, trace_of, word_at, with_word, old_word, note, target, performs}

-- the machine's state of an abstract one, which knows Z alone of the flags: the others are f's
abbrev pub concrete : Abstract → Flags → Machine
concrete (machine pc r sp ct m l) f = record { regs = r; sp = sp; lr = ct.link; pc = pc; flags = record { n = f.n; z = eqb ct.tested 0; c = f.c; v = f.v } }

-- words w agree with the memory m where it is known, and past it with the words that there were at first
pub record Agrees (first : List ℕ) (m : List (Option ℕ)) (w : List ℕ) : Type 0 where
  pub same : (i v : ℕ) → get_or m i none ≡ some v → get_or w i 0 ≡ v
  pub enough : length m ≤ length w
  pub all : length w ≡ length first
  pub untouched : (i : ℕ) → length m ≤ i → get_or w i 0 ≡ get_or first i 0

-- every access lies in the first n words
abbrev pub Within : ℕ → List Access → Type 0
Within n = Each (λ a. a.offset < n)

-- an effect that takes the machine to what the abstract machine with n words came to, m, from the trace l
pub record Follows (array : ℕ → Bool) (first : List ℕ) (n : ℕ) (l : List Access) (m : Abstract) (o : Effect) : Type 0 where
  pub flags : Flags
  pub words : List ℕ
  pub is : o.after ≡ after (done (concrete m flags)) words
  pub agrees : Agrees first (memory_of m) words
  pub trace : l ++ listed array o.access ≡ trace_of m
  pub size : length (memory_of m) ≡ n
  pub within : Within n o.access

-- ── memory ──

agrees_set : {first : List ℕ} {m : List (Option ℕ)} {w : List ℕ} (k v : ℕ) → k < length m → Agrees first m w → Agrees first (set m k (some v)) (set w k v)
agrees_set {first} {m} {w} k v h a = record {
  same = λ i x e. at i x e (ℕ_discrete i k);
  enough = omega (arith, length-set m k (some v), length-set w k v, a.enough);
  all = length-set w k v ∙ a.all;
  untouched = λ i b.
      let b' : length m ≤ i = omega (arith, length-set m k (some v)) in
      get_or-set_other w k i v 0 (omega arith) ∙ a.untouched i b';
}
  where
    at : (i x : ℕ) → get_or (set m k (some v)) i none ≡ some x → Dec (i ≡ k) → get_or (set w k v) i 0 ≡ x
    at i x e (yes y) =
        let z : get_or (set m k (some v)) k none ≡ some v = get_or-set_same m k (some v) none h in
        let z' : get_or (set m k (some v)) k none ≡ some x = rw y at e in
        let u : v ≡ x = cc in
        rw (y, ← u) (get_or-set_same w k v 0 (omega (arith, a.enough)))
    at i x e (no y) = get_or-set_other w k i v 0 y ∙ a.same i x (rw (get_or-set_other m k i (some v) none y) at e)

-- what an address that the abstract machine takes is
record Reaches (n a k : ℕ) : Type 0 where
  aligned : eqb (a % 4) 0 ≡ true
  low : leb base a ≡ true
  high : ltb ((a - base) / 4) n ≡ true
  word : (a - base) / 4 ≡ k

reaches : (n a k : ℕ) → word_at n a ≡ some k → Reaches n a k
unfolding word_at
reaches n a k e = by (eqb (a % 4) 0) refl (leb base a) refl (ltb ((a - base) / 4) n) refl e
  where
    by : (x : Bool) → eqb (a % 4) 0 ≡ x → (y : Bool) → leb base a ≡ y → (u : Bool) → ltb ((a - base) / 4) n ≡ u
        → pick x (pick y (pick u (some ((a - base) / 4)) none) none) none ≡ some k → Reaches n a k
    by true p true q true s e = record { aligned = p; low = q; high = s; word = cc }
    by true p true q false s e = let x : ◌≡◌ {A = ℕ} 0 1 = cc (e) in absurd (omega arith)
    by true p false q u s e = let x : ◌≡◌ {A = ℕ} 0 1 = cc (e) in absurd (omega arith)
    by false p y q u s e = let x : ◌≡◌ {A = ℕ} 0 1 = cc (e) in absurd (omega arith)

-- the same word is in reach of the lent words, and its address lies past the code
module _ {n a k : ℕ} (r : Reaches n a k) where
  in_words : (w : ℕ) → n ≤ w → ltb ((a - base) / 4) w ≡ true
  in_words w h = lt-ltb ((a - base) / 4) w (omega (arith, ltb-true ((a - base) / 4) n r.high))

  past_code : (c : ℕ) → c ≤ 65536 → leb (a + 4) c ≡ false
  past_code c h = lt-leb (a + 4) c (omega (arith, leb-true base a r.low))

  below : k < n
  below = omega (arith, ltb-true ((a - base) / 4) n r.high, r.word)

-- one access, listed as the abstract machine notes it
listed_one : (array : ℕ → Bool) (l : List Access) (x : Access) → l ++ listed array (x ∷ []) ≡ note (array x.offset) l x
unfolding listed
listed_one array l x = by (array x.offset)
  where
    by : (b : Bool) → l ++ pick b (x ∷ []) [] ≡ note b l x
    by true = refl
    by false = append-nil l

-- ── instructions ──

next_pc : (pc : ℕ) → pc ≤ 65536 → add pc 2 ≡ pc + 2
next_pc pc h = omega arith

module _ (array : ℕ → Bool) (first c : List ℕ) (short : length c ≤ 65536) where
  -- no access: the state alone
  keeps : (s z : Abstract) (w : List ℕ) (f : Flags) (l : List Access) {o : Effect} → Agrees first (memory_of s) w → some s ≡ some z → l ≡ trace_of s → o ≡ real.goes w (concrete s f)
      → Follows array first (length (memory_of s)) l z o
  unfolding listed
  keeps s z w f l a e t h =
      let x : s ≡ z = cc in
      rw (← x, h) (record { flags = f; words = w; is = refl; agrees = a; trace = append-nil l ∙ t; size = refl; within = tt })

  module _ (pc : ℕ) (r : List ℕ) (sp : ℕ) (ct : Control) (m : List (Option ℕ)) (l : List Access) (z : Abstract) (w : List ℕ) (f : Flags) (a : Agrees first m w) (p : pc ≤ 65536) where
    abbrev now : Abstract
    now = machine pc r sp ct m l

    load_follows : (d ad : ℕ) → with_word (word_at (length m) ad) (λ k. with_word (get_or m k none) (λ v. some (machine (pc + 2) (set r d v) sp ct m (note (array k) l (loaded k v))))) ≡ some z
        → Follows array first (length m) l z (real.load c w (concrete now f) d ad)
    unfolding real.load takes slot_of
    load_follows d ad e = by (word_at (length m) ad) refl e
      where
        known : (k : ℕ) (u : Option ℕ) → get_or m k none ≡ u → Reaches (length m) ad k → with_word u (λ v. some (machine (pc + 2) (set r d v) sp ct m (note (array k) l (loaded k v)))) ≡ some z
            → Follows array first (length m) l z (real.load c w (concrete now f) d ad)
        known k none h o e = let x : ◌≡◌ {A = ℕ} 0 1 = cc (e) in absurd (omega arith)
        known k (some v) h o e =
            let x : machine (pc + 2) (set r d v) sp ct m (note (array k) l (loaded k v)) ≡ z = cc in
            rw (← x, o.aligned, past_code o (length c) short, o.low, in_words o (length w) a.enough, o.word, a.same k v h, next_pc pc p)
            (record { flags = f; words = w; is = refl; agrees = a; trace = listed_one array l (loaded k v); size = refl; within = (below o, tt) })

        by : (x : Option ℕ) → word_at (length m) ad ≡ x → with_word x (λ k. with_word (get_or m k none) (λ v. some (machine (pc + 2) (set r d v) sp ct m (note (array k) l (loaded k v))))) ≡ some z
            → Follows array first (length m) l z (real.load c w (concrete now f) d ad)
        by (some k) h e = known k (get_or m k none) refl (reaches (length m) ad k h) e
        by none h e = let x : ◌≡◌ {A = ℕ} 0 1 = cc (e) in absurd (omega arith)

    store_follows : (d ad : ℕ)
        → with_word (word_at (length m) ad)
        (λ k. old_word (array k) (get_or m k none) (λ v. some (machine (pc + 2) r sp ct (set m k (some (get r d))) (note (array k) l (stored k v (get r d)))))) ≡ some z
        → Follows array first (length m) l z (real.store w (concrete now f) d ad)
    unfolding real.store next slot_of
    store_follows d ad e = by (word_at (length m) ad) refl e
      where
        put_it : (k : ℕ) (y : List Access) → Reaches (length m) ad k → l ++ listed array (stored k (get_or w k 0) (get r d) ∷ []) ≡ y
            → some (machine (pc + 2) r sp ct (set m k (some (get r d))) y) ≡ some z
            → Follows array first (length m) l z (real.store w (concrete now f) d ad)
        put_it k y o t e =
            let s : machine (pc + 2) r sp ct (set m k (some (get r d))) y ≡ z = cc (e) in
            rw (← s, o.aligned, o.low, in_words o (length w) a.enough, o.word, next_pc pc p)
            (record { flags = f; words = set w k (get r d); is = refl; agrees = agrees_set k (get r d) (below o) a; trace = t; size = length-set m k (some (get r d)); within = (below o, tt) })

        known : (k : ℕ) (b : Bool) (u : Option ℕ) → array k ≡ b → get_or m k none ≡ u → Reaches (length m) ad k
            → old_word b u (λ v. some (machine (pc + 2) r sp ct (set m k (some (get r d))) (note b l (stored k v (get r d))))) ≡ some z
            → Follows array first (length m) l z (real.store w (concrete now f) d ad)
        known k true none q h o e = let x : ◌≡◌ {A = ℕ} 0 1 = cc (e) in absurd (omega arith)
        known k true (some v) q h o e = put_it k (l ++ stored k v (get r d) ∷ []) o (rw (a.same k v h) (listed_one array l (stored k v (get r d)) ∙ rw q refl)) e
        known k false u q h o e = put_it k l o (listed_one array l (stored k (get_or w k 0) (get r d)) ∙ rw q refl) e

        by : (x : Option ℕ) → word_at (length m) ad ≡ x
            → with_word x (λ k. old_word (array k) (get_or m k none) (λ v. some (machine (pc + 2) r sp ct (set m k (some (get r d))) (note (array k) l (stored k v (get r d)))))) ≡ some z
            → Follows array first (length m) l z (real.store w (concrete now f) d ad)
        by (some k) h e = known k (array k) (get_or m k none) refl refl (reaches (length m) ad k h) e
        by none h e = let x : ◌≡◌ {A = ℕ} 0 1 = cc (e) in absurd (omega arith)

    branch_follows : (b : Bool) (k : ℕ) → some (machine (pick b (target pc k) (pc + 2)) r sp ct m l) ≡ some z → Follows array first (length m) l z (real.goes w (branch (concrete now f) b k))
    unfolding branch jump next
    branch_follows true k e = keeps _ z w f l a e refl refl
    branch_follows false k e = keeps _ z w f l a e refl (rw (next_pc pc p))

    -- a result, C and V being what they may
    result_follows : (d v : ℕ) (k o : Bool) → some (machine (pc + 2) (set r d v) sp (tests v ct) m l) ≡ some z
        → Follows array first (length m) l z (real.goes w (result (concrete now f) d v (flags_of v k o)))
    unfolding result
    result_follows d v k o e = keeps _ z w (flags_of v k o) l a e refl (rw (next_pc pc p))

    -- one instruction
    pub execute_follows : (i : Instr) → performs array i now ≡ some z → Follows array first (length m) l z (execute_of c w (concrete now f) i)
    unfolding execute_of moves link
    execute_follows (Shli n x d) e = result_follows d _ _ _ e
    execute_follows (Shri n x d) e = result_follows d _ _ _ e
    execute_follows (Ashri n x d) e = let x : ◌≡◌ {A = ℕ} 0 1 = cc (e) in absurd (omega arith)
    execute_follows (Addr i x d) e = rw (sum_plain (get r x) (get r i)) (result_follows d _ _ _ e)
    execute_follows (Subr i x d) e = result_follows d _ _ _ e
    execute_follows (Movi d u) e = result_follows d _ _ _ e
    execute_follows (Addi d u) e = rw (sum_plain (get r d) u) (result_follows d _ _ _ e)
    execute_follows (Subi d u) e = result_follows d _ _ _ e
    execute_follows (Ldrpci d u) e = let x : ◌≡◌ {A = ℕ} 0 1 = cc (e) in absurd (omega arith)
    execute_follows (Strspi d u) e = store_follows d (add sp (4 * u)) e
    execute_follows (Ldrspi d u) e = load_follows d (add sp (4 * u)) e
    execute_follows (Addpci d u) e = let x : ◌≡◌ {A = ℕ} 0 1 = cc (e) in absurd (omega arith)
    execute_follows (Addspi d u) e = let x : ◌≡◌ {A = ℕ} 0 1 = cc (e) in absurd (omega arith)
    execute_follows (Andr i d) e = result_follows d _ _ _ e
    execute_follows (Xorr i d) e = result_follows d _ _ _ e
    execute_follows (Shl i d) e = result_follows d _ _ _ e
    execute_follows (Shr i d) e = result_follows d _ _ _ e
    execute_follows (Negr i d) e = result_follows d _ _ _ e
    execute_follows (Orr i d) e = result_follows d _ _ _ e
    execute_follows (Mul i d) e = result_follows d _ _ _ e
    execute_follows (Mvnr i d) e = result_follows d _ _ _ e
    execute_follows (Str i b d) e = store_follows d (add (get r b) (get r i)) e
    execute_follows (Ldr i b d) e = load_follows d (add (get r b) (get r i)) e
    execute_follows (Stri u b d) e = let x : ◌≡◌ {A = ℕ} 0 1 = cc (e) in absurd (omega arith)
    execute_follows (Ldri u b d) e = let x : ◌≡◌ {A = ℕ} 0 1 = cc (e) in absurd (omega arith)
    execute_follows (Incsp u) e = keeps _ z w f l a e refl (rw (next_pc pc p))
    execute_follows (Decsp u) e = keeps _ z w f l a e refl (rw (next_pc pc p))
    execute_follows (Svc u) e = let x : ◌≡◌ {A = ℕ} 0 1 = cc (e) in absurd (omega arith)
    execute_follows (Beq k) e = branch_follows (eqb ct.tested 0) k e
    execute_follows (Bne k) e = branch_follows (not (eqb ct.tested 0)) k e
    execute_follows (Bge k) e = let x : ◌≡◌ {A = ℕ} 0 1 = cc (e) in absurd (omega arith)
    execute_follows (Blt k) e = let x : ◌≡◌ {A = ℕ} 0 1 = cc (e) in absurd (omega arith)
    execute_follows (Bu k) e = let x : ◌≡◌ {A = ℕ} 0 1 = cc (e) in absurd (omega arith)
    execute_follows (Bl k) e = keeps _ z w f l a e refl refl
