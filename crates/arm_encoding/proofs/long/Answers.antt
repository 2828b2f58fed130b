-- `arm_encoding::long` meets its contract: the answers are the definition's, test by test and call by call.
-- Rests on the definitions that its contract cites; assumes nothing.
use Rattle.arm_encoding.specs.Encoding.{put_long}
use borrow.Author.Tests.{lt-ltb, le-ltb}
use Rattle.arm_encoding.proofs.long.Goals as goal

pub returns-then-f-ge4194304 : goal.returns-then-f-ge4194304
unfolding put_long
returns-then-f-ge4194304 c = rw (← c.narrow-f.ensures, le-ltb _ _ c.if-f-ge4194304.true)

pub returns : goal.returns
unfolding put_long
returns c = rw (← c.narrow-f.ensures, lt-ltb _ _ c.if-f-ge4194304.false)
