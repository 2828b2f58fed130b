-- `arm_state::Core::jump` meets its contract: the answers are the definition's, test by test and call by call.
-- Rests on the definitions that its contract cites; assumes nothing.
use Rattle.arm_state.specs.State.{jump}
use Rattle.arm_state.proofs.Core.jump.Goals as goal

pub returns : goal.returns
unfolding jump
returns c = rw (c.add-2.ensures, c.add.ensures, c.add-from.ensures)
