-- A move of the source as a run of the abstract machine: what each block lemma has to show, and what they share. Definitions and lemmas; they rest on Relation.
use Rattle.std.specs.Prelude.{◌≡◌, refl, false, List, [], ◌∷◌, ℕ, suc, ◌+◌, ◌≤◌, ◌<◌, get_or, length}
use Rattle.std.proofs.Math.Option.{Option, none, some}
use native.Mathlib.Omega.{arith}
use Rattle.arm_word.specs.Access.{Access}
use Rattle.x_program.specs.Tree.{Expression, constant, variable, element, monadic, diadic, bracket, Process, skip, stop, assign, assign_element, braces, conditional, loop, Processes, none, also}
use Rattle.x_program.specs.Resolved.{past_data}
use Rattle.x_meaning.specs.SourceRun.{Item, evaluate, work₁, work₂, check, load, execute, set_variable, store, choose, repeat, in_order, End, going, finish, stopped, bad_subscript, State}
use Rattle.x_meaning.specs.SourceRun.{state, move, moves}
use Rattle.theorem_simulation.specs.Abstract.{registers, Control, Abstract, machine}
use Rattle.theorem_simulation.specs.Straight.{Path, advance, address}
use Rattle.theorem_simulation.specs.Relation.{Setting, data_of, array_of, Limits, Fits, item_code, Continues, Place, Memory, Related, Good}

-- ── what falls at each move that takes no instruction ──

abbrev pub expression_size : Expression → ℕ
expression_size (constant w) = 1
expression_size (variable v) = 1
expression_size (element a e) = suc (expression_size e)
expression_size (monadic o e) = suc (expression_size e)
expression_size (diadic o e f) = suc (expression_size e + expression_size f)
expression_size (bracket e) = suc (expression_size e)

abbrev mutual
  pub process_size : Process → ℕ
  process_size skip = 1
  process_size stop = 1
  process_size (assign v e) = suc (expression_size e)
  process_size (assign_element a s e) = suc (expression_size s + expression_size e)
  process_size (braces ps) = suc (list_size ps)
  process_size (conditional e p q) = suc (expression_size e)
  process_size (loop e p) = suc (expression_size e)

  pub list_size : Processes → ℕ
  list_size Processes.none = 0
  list_size (also p ps) = process_size p + list_size ps

abbrev pub item_size : Item → ℕ
item_size (evaluate e) = expression_size e
item_size (work₁ o) = 0
item_size (work₂ o) = 0
item_size (check a) = 0
item_size (load a) = 0
item_size (execute p) = process_size p
item_size (set_variable v) = 0
item_size (store a) = 0
item_size (choose p q) = 0
item_size (repeat e p) = 0

abbrev pub continuation_size : List Item → ℕ
continuation_size [] = 0
continuation_size (x ∷ c) = item_size x + continuation_size c

abbrev pub size_by : End → List Item → ℕ
size_by going c = suc (continuation_size c)
size_by finish c = 0
size_by stopped c = 0
size_by bad_subscript c = 0

abbrev pub state_size : State → ℕ
state_size s = size_by s.end s.continuation

pub in_order_size : (ps : Processes) (c : List Item) → continuation_size (in_order ps c) ≡ list_size ps + continuation_size c
in_order_size Processes.none c = omega arith
in_order_size (also p ps) c = omega (arith, in_order_size ps c)

-- ── a block ──

-- one move is some instructions, demand 3's facts before each; none only if the size falls
pub record Block (E : Setting) (s : State) (m : Abstract) : Type 0 where
  pub n : ℕ
  pub z : Abstract
  pub path : Path (array_of E) E.code (Good E s) z n m
  pub related : Related E (move s) z
  pub falls : n ≡ 0 → state_size (move s) < state_size s

-- the claim for a thing to do x with the operand stack p, c being to do after it
abbrev pub Claim : Setting → List ℕ → List Access → List Item → ℕ → ℕ → ℕ → ℕ → ℕ → ℕ → Control → List (Option ℕ) → Item → List ℕ → Type 0
Claim E d t c pc a b g r3 k ct mem x p =
    Continues E.code c (advance (item_code x) pc) → Fits E (x ∷ c) p → Memory E d p k mem
    → Block E (state d t (x ∷ c) p going) (machine pc (registers a b g r3) (address k) ct mem t)

-- ── what the block lemmas share ──

module _ {E : Setting} (ok : Limits E) where
  -- the relation, from its two parts that say something
  pub relate : {d : List ℕ} {t : List Access} {c : List Item} {p : List ℕ} {e : End} {pc a b g r3 : ℕ} {ct : Control} {mem : List (Option ℕ)} (k : ℕ)
      → Place E e c p pc → Memory E d p k mem → Related E (state d t c p e) (machine pc (registers a b g r3) (address k) ct mem t)
  relate {d} {t} {c} {p} {e} {pc} {a} {b} {g} {r3} {ct} {mem} k place memory = record
      { d = d; t = t; c = c; p = p; e = e; pc = pc; r0 = a; r1 = b; r2 = g; r3 = r3; k = k; control = ct; mem = mem; source = refl; target = refl; place = place; memory = memory }

  pub good : {s : State} {l : List Access} {mem : List (Option ℕ)} (k j : ℕ) → l ≡ (moves j s).trace → ((i : ℕ) → i < data_of E → get_or mem i none ≡ some (get_or (moves j s).words i 0))
      → data_of E ≤ k → k ≤ data_of E + E.stack → Good E s (address k) mem l
  unfolding address
  good k j e w lo hi = record { j = j; list = e; words = w; sp_low = omega arith; sp_high = omega arith }

  -- no stack word is an array's
  pub apart : (k : ℕ) → data_of E ≤ k → array_of E k ≡ false
  apart k h = past_data E.declarations k h

  -- the facts on sp and memory that omega wants
  pub record Facts (p : List ℕ) (k : ℕ) (mem : List (Option ℕ)) : Type 0 where
    pub top : k + length p ≡ data_of E + E.stack
    pub low : data_of E ≤ k
    pub all : length mem ≡ data_of E + E.stack
    pub few_words : data_of E + E.stack ≤ 16384
    pub few_data : data_of E ≤ 8192

  pub facts : {d p : List ℕ} {k : ℕ} {mem : List (Option ℕ)} → Memory E d p k mem → Facts p k mem
  facts mr = record { top = mr.top; low = mr.low; all = mr.all; few_words = ok.few_words; few_data = ok.few_data }
