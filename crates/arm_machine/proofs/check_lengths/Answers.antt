-- `arm_machine::check_lengths` meets its contract: the answers are the definition's, test by test and call by call.
-- Rests on the definitions that its contract cites; assumes nothing.
use borrow.Author.Tests.{lt-ltb, le-ltb}
use Rattle.arm_machine.specs.Step.{refusal_of}
use Rattle.arm_machine.proofs.check_lengths.Goals as goal

pub returns-then-code-gt-CODE_LIMIT : goal.returns-then-code-gt-CODE_LIMIT
unfolding refusal_of
returns-then-code-gt-CODE_LIMIT c = rw (lt-ltb 65536 _ c.if-code-gt-CODE_LIMIT.true)

pub returns-then-memory-gt-MEMORY_LIMIT : goal.returns-then-memory-gt-MEMORY_LIMIT
unfolding refusal_of
returns-then-memory-gt-MEMORY_LIMIT c = rw (le-ltb 65536 _ c.if-code-gt-CODE_LIMIT.false, lt-ltb 16384 _ c.if-memory-gt-MEMORY_LIMIT.true)

pub returns : goal.returns
unfolding refusal_of
returns c = rw (le-ltb 65536 _ c.if-code-gt-CODE_LIMIT.false, le-ltb 16384 _ c.if-memory-gt-MEMORY_LIMIT.false)
