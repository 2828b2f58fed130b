-- `arm_machine::start` meets its contract: by whether `check_start` refuses.
-- Rests on the definitions that its contract cites; assumes nothing.
use mathlib.Core.Path.{sym, ap, ◌∙◌}
use Rattle.arm_machine.specs.Refusals.{answered}
use Rattle.arm_machine.specs.Start.{start_of}
use Rattle.arm_machine.proofs.NumberLaws.{refusal_not_0}
use Rattle.arm_machine.proofs.start.Goals as goal

pub returns-in-Ok : goal.returns-in-Ok
unfolding start_of
returns-in-Ok c = rw (sym c.check_start.ensures ∙ ap answered c.in-Ok.is, c.fresh.ensures)

pub returns-in-Err : goal.returns-in-Err
unfolding start_of
returns-in-Err c = rw (sym c.check_start.ensures ∙ ap answered c.in-Err.is, refusal_not_0 _, c.from.ensures, c.zeros.ensures)
