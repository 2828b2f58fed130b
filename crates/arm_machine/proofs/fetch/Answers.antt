-- `arm_machine::fetch` meets its contract: the tests are the definition's own.
-- Rests on the definitions that its contract cites; assumes nothing.
use borrow.Author.Tests.{le-leb, lt-leb, eq-eqb, ne_eqb}
use Rattle.arm_machine.specs.Step.{fetch_of}
use Rattle.arm_machine.proofs.fetch.Goals as goal

pub returns-then-pc-ne0 : goal.returns-then-pc-ne0
unfolding fetch_of
returns-then-pc-ne0 c = rw (ne_eqb _ _ c.if-pc-ne0.true)

pub returns-then-i-code : goal.returns-then-i-code
unfolding fetch_of
returns-then-i-code c = rw (eq-eqb _ _ c.if-pc-ne0.false, lt-leb _ _ c.if-i-code.true)

pub returns : goal.returns
unfolding fetch_of
returns c = rw (c.with_second.ensures, c.half.ensures, eq-eqb _ _ c.if-pc-ne0.false, le-leb _ _ c.if-i-code.false)
