-- `arm_state::Core::moves` meets its contract: the answers are the definition's, test by test and call by call.
-- Rests on the definitions that its contract cites; assumes nothing.
use Rattle.arm_state.specs.State.{moves}
use Rattle.arm_state.proofs.Core.moves.Goals as goal

pub returns : goal.returns
unfolding moves
returns c = rw c.add.ensures
