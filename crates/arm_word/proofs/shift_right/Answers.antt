-- `arm_word::shift_right` meets its contract: the answers are the definition's, test by test and call by call.
-- Rests on the definitions that its contract cites; assumes nothing.
use Rattle.std.proofs.Common.{le-ltb, lt-ltb}
use Rattle.arm_word.specs.Word.{shift_right}
use Rattle.arm_word.proofs.shift_right.Goals as goal

pub returns-then-n-lt32 : goal.returns-then-n-lt32
unfolding shift_right
returns-then-n-lt32 c = rw (lt-ltb _ _ c.if-n-lt32.true)

pub returns-else-n-lt32 : goal.returns-else-n-lt32
unfolding shift_right
returns-else-n-lt32 c = rw (le-ltb _ _ c.if-n-lt32.false)
