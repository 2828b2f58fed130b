-- `walker_run::run` meets its contract: invariant `Walking`: the walk from the start is what is left of it from here.
-- Assumes nothing.
use mathlib.Core.Path.{◌≡◌}
use Rattle.x_program.specs.FittingRows.{Valid}
use Rattle.walker_arrays.specs.declared.mode.Mode.TheVariants.{Settling}
use Rattle.walker_run.specs.Walking.{Walking}
use Rattle.walker_run.proofs.run.Given as goal

abbrev pub invariant-loop-steps : goal.invariant-loop-steps
invariant-loop-steps l = record {
  walking : (v : Valid l.table) → Walking l.table v l.first l.initial.accesses l.limit l.initial.words l.mode l.work l.words l.accesses l.steps;
  settled : l.mode ≡ Settling → ⊥;
}
