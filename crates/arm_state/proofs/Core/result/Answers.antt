-- `arm_state::Core::result` meets its contract: a register takes the word, and the flags are the given ones.
-- Rests on the definitions that its contract cites; assumes nothing.
use mathlib.Core.Path.{ap}
use Rattle.arm_state.specs.State.{result, takes}
use Rattle.arm_state.specs.declared.Flags.{Flags}
use Rattle.arm_state.specs.declared.Machine.{Machine}
use Rattle.arm_state.proofs.Core.result.Goals as goal

abbrev with_flags : Flags → Machine → Machine
with_flags f m = record { regs = m.regs; sp = m.sp; lr = m.lr; pc = m.pc; flags = f }

pub returns : goal.returns
unfolding result takes
returns c = ap (with_flags c.args.flags) c.takes-m.ensures
