-- `arm_machine::with_second` meets its contract: the answers are the definition's, test by test and call by call.
-- Rests on the definitions that its contract cites; assumes nothing.
use borrow.Author.Tests.{lt-ltb, le-ltb, le-leb, lt-leb}
use Rattle.arm_machine.specs.Step.{with_second}
use Rattle.arm_machine.proofs.with_second.Goals as goal

pub returns-then-h-lt61440 : goal.returns-then-h-lt61440
unfolding with_second
returns-then-h-lt61440 c = rw (lt-ltb _ 0xF000 c.if-h-lt61440.true)

pub returns-then-h-ge63488 : goal.returns-then-h-ge63488
unfolding with_second
returns-then-h-ge63488 c = rw (le-ltb _ 0xF000 c.if-h-lt61440.false, le-ltb _ 0xF800 c.if-h-ge63488.true)

pub returns-then-i-code : goal.returns-then-i-code
unfolding with_second
returns-then-i-code c = rw (le-ltb _ 0xF000 c.if-h-lt61440.false, lt-ltb _ 0xF800 c.if-h-ge63488.false, lt-leb _ _ c.if-i-code.true)

pub returns : goal.returns
unfolding with_second
returns c = rw (c.half.ensures, le-ltb _ 0xF000 c.if-h-lt61440.false, lt-ltb _ 0xF800 c.if-h-ge63488.false, le-leb _ _ c.if-i-code.false)
