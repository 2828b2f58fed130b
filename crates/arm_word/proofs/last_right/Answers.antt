-- `arm_word::last_right` meets its contract: the answers are the definition's, call by call.
-- Rests on the definitions that its contract cites; assumes nothing.
use Rattle.arm_word.specs.Carry.{last_right}
use Rattle.arm_word.proofs.last_right.Goals as goal

pub returns : goal.returns
unfolding last_right
returns c = rw (c.shift_right.ensures, c.one_less.ensures)
