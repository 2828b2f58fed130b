-- `arm_encoding::widen` meets its contract: the answers are the definition's, test by test and call by call.
-- Rests on the definitions that its contract cites; assumes nothing.
use Rattle.arm_encoding.specs.Encoding.{widen}
use borrow.Author.Tests.{lt-ltb, le-ltb}
use native.Mathlib.Omega.{arith}
use Rattle.arm_encoding.proofs.widen.Goals as goal

pub returns-then-f-half : goal.returns-then-f-half
unfolding widen
returns-then-f-half c = rw (lt-ltb _ _ c.if-f-half.true)

pub returns : goal.returns
unfolding widen
returns c = rw (le-ltb _ _ c.if-f-half.false) (omega arith)
