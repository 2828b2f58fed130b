-- What a walk hands back: its answer, the memory, and the lent buffer for its accesses. Definitions; rests on the table's run.
use Rattle.std.specs.Prelude.{ℕ, List, length}
use Rattle.x_meaning.specs.TableRun.{Walk, walk_of}
use Rattle.walker_arrays.specs.AccessEntries.{handed}
use Rattle.walker_run.specs.declared.Walked.{Walked}

-- the answer; the accesses are counted whether they are shown or not
abbrev pub answer_of : Walk → Walked
answer_of w = record { status = w.status; number = w.number; steps = w.steps; accesses = length w.trace }

pub record WalkLeft : Type 0 where
  pub answer : Walked
  pub memory : List ℕ
  pub accesses : List ℕ

abbrev pub left : Walked → List ℕ → List ℕ → WalkLeft
left answer memory accesses = record { answer = answer; memory = memory; accesses = accesses }

abbrev pub left_of : ℕ → List ℕ → Walk → WalkLeft
left_of first buffer w = left (answer_of w) w.words (handed first buffer w.trace)

-- a limit, the number of the first entry that is shown, a table, lent words and a lent buffer
unfoldable pub left_by_walk : ℕ → ℕ → List ℕ → List ℕ → List ℕ → WalkLeft
left_by_walk limit first t memory buffer = left_of first buffer (walk_of limit t memory)
