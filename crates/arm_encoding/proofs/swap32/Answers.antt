-- `arm_encoding::swap32` meets its contract: the answers are the definition's, test by test and call by call.
-- Rests on the definitions that its contract cites; assumes nothing.
use Rattle.arm_encoding.specs.Encoding.{swap32}
use borrow.Author.Tests.{ne_eqb}
use Rattle.arm_encoding.proofs.swap32.Goals as goal

pub returns-then-n-eq0 : goal.returns-then-n-eq0
unfolding swap32
returns-then-n-eq0 c = rw c.if-n-eq0.true

pub returns-then-n-eq32 : goal.returns-then-n-eq32
unfolding swap32
returns-then-n-eq32 c = rw c.if-n-eq32.true

pub returns : goal.returns
unfolding swap32
returns c = rw (ne_eqb _ _ c.if-n-eq0.false, ne_eqb _ _ c.if-n-eq32.false)
