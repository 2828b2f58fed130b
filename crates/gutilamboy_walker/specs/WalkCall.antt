-- What the exported walk leaves in its answer, in the lent words and in the lent buffer. Definitions; rests on what a walk hands back.
use Rattle.std.specs.Prelude.{ℕ, List, [], ◌∷◌}
use Rattle.walker_run.specs.Handed.{WalkLeft, left_by_walk}
use Rattle.walker_run.specs.declared.Walked.{Walked}

pub record WalkedLeft : Type 0 where
  pub out : List ℕ
  pub memory : List ℕ
  pub accesses : List ℕ

abbrev pub walked_left : List ℕ → List ℕ → List ℕ → WalkedLeft
walked_left out memory accesses = record { out = out; memory = memory; accesses = accesses }

-- status, number, steps and accesses
abbrev pub walked_words : Walked → List ℕ
walked_words w = w.status ∷ w.number ∷ w.steps ∷ w.accesses ∷ []

abbrev pub of_walk : WalkLeft → WalkedLeft
of_walk l = walked_left (walked_words l.answer) l.memory l.accesses

-- a limit, the number of the first entry, a table, lent words and a lent buffer
abbrev pub walk_call : ℕ → ℕ → List ℕ → List ℕ → List ℕ → WalkedLeft
walk_call limit first table memory accesses = of_walk (left_by_walk limit first table memory accesses)
