-- `walker_run::settle` meets its contract: invariant: what the walker has come to is the same; a turn leaves less to do, or ends at a row or at an end.
-- Assumes nothing.
use mathlib.Core.List.{List}
use Prim.Native.Nat.{ℕ}
use Rattle.x_meaning.specs.TableRun.{State}
use Rattle.walker_arrays.specs.WorkingArrays.{Shows}
use Rattle.walker_items.specs.Doing.{unsettled}
use Rattle.walker_run.proofs.settle.Given as goal

abbrev pub invariant-loop-mode : goal.invariant-loop-mode
invariant-loop-mode l =
    (first : ℕ) (old : List ℕ) (x : State) → Shows l.table first old l.initial.mode l.initial.work l.initial.words l.initial.accesses x
    → Shows l.table first old l.mode l.work l.words l.accesses x

abbrev pub decreases-loop-mode : goal.decreases-loop-mode
decreases-loop-mode l = unsettled l.mode l.work
