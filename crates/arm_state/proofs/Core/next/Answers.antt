-- `arm_state::Core::next` meets its contract: the answers are the definition's, test by test and call by call.
-- Rests on the definitions that its contract cites; assumes nothing.
use Rattle.arm_state.specs.State.{next}
use Rattle.arm_state.proofs.Core.next.Goals as goal

pub returns : goal.returns
unfolding next
returns c = rw c.add.ensures
