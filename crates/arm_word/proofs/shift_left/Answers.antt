-- `arm_word::shift_left` meets its contract: the answers are the definition's, test by test and call by call.
-- Rests on the definitions that its contract cites; assumes nothing.
use Rattle.std.proofs.Common.{le-ltb, lt-ltb}
use Rattle.arm_word.specs.Word.{shift_left}
use Rattle.arm_word.proofs.shift_left.Goals as goal

pub returns-then-n-lt32 : goal.returns-then-n-lt32
unfolding shift_left
returns-then-n-lt32 c = rw (lt-ltb _ _ c.if-n-lt32.true)

pub returns-else-n-lt32 : goal.returns-else-n-lt32
unfolding shift_left
returns-else-n-lt32 c = rw (le-ltb _ _ c.if-n-lt32.false)
