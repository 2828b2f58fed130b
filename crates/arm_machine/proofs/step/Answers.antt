-- `arm_machine::step` meets its contract: a run of at most one hands back what a step does (`run_one`).
-- Rests on the definitions that its contract cites; assumes nothing.
use mathlib.Core.Path.{ap, ◌∙◌}
use Rattle.arm_state.specs.Effects.{After, after}
use Rattle.arm_machine.specs.MachineRun.{RunAfter}
use Rattle.arm_machine.specs.Iterations.{run_one}
use Rattle.arm_machine.proofs.step.Goals as goal

abbrev uncounted : RunAfter → After
uncounted r = after (record { machine = r.state.machine; status = r.state.status; number = r.state.number }) r.words

pub returns : goal.returns
returns c =
    let x = c.args in
    ap uncounted (c.run-ran.ensures ∙ run_one x.code.now x.memory.now x.machine)
