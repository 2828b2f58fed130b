-- `arm_word::last_left` meets its contract: the answers are the definition's, call by call.
-- Rests on the definitions that its contract cites; assumes nothing.
use Rattle.arm_word.specs.Carry.{last_left}
use Rattle.arm_word.proofs.last_left.Goals as goal

pub returns : goal.returns
unfolding last_left
returns c = rw (c.shift_left.ensures, c.one_less.ensures)
