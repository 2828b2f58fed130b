-- Request 2026-12, old words in the stack don't matter: the same calls over two memories that agree in the declared words are answered alike. Definitions and the statement.
-- Demand4Proof has the proof. It rests on demand 3's definitions: the lent words, the calls, and what a call hands back.
--
-- Wrong programs, and the clause that rules each out:
-- * a block that reads a stack word before it is written, so that yesterday's word is today's operand: `words`; if it is a subscript, `trace`; if it is a condition, `status` and `number`.
-- * one whose way depends on an old word, though its outcome does not: `count`.
-- * one that goes wrong only where a limit cut the run before: every call of the list is compared.
-- * one that goes by how much memory there is, or by a word past the needed ones: the two memories may differ in both.
-- * doing nothing, which would be alike too: demand 3.
use Rattle.std.specs.Prelude.{◌≡◌, List, [], ◌∷◌, ℕ, take}
use Rattle.x_program.specs.Tree.{Program}
use Rattle.theorem_simulation.specs.Demand3.{D, Call, Called, trace_of, called}

-- "two memories that agree in the D declared words"
abbrev pub Agree : Program → List ℕ → List ℕ → Type 0
Agree p memory other = take (D p) memory ≡ take (D p) other

-- two calls that are answered alike
pub record Alike (p : Program) (a b : Called) : Type 0 where
  -- "same end"
  pub status : a.status ≡ b.status
  pub number : a.number ≡ b.number
  -- "same count"
  pub count : a.count ≡ b.count
  -- "same access list": of this call; so of all calls up to it
  pub trace : trace_of p a.tries ≡ trace_of p b.tries
  -- "same D words"
  pub words : Agree p a.words b.words

-- a fact of two lists, member by member; they are equally long
abbrev pub Both : {A : Type 0} → (A → A → Type 0) → List A → List A → Type 0
Both P [] [] = Unit {0}
Both P [] (y ∷ ys) = ⊥
Both P (x ∷ xs) [] = ⊥
Both P (x ∷ xs) (y ∷ ys) = P x y × Both P xs ys

-- "after the same limit", and after any list of calls
abbrev pub Demand4 : Program → List ℕ → List ℕ → Type 0
Demand4 p memory other = (ks : List Call) → Both (Alike p) (called p memory ks) (called p other ks)
