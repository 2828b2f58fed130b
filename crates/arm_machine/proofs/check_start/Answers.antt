-- `arm_machine::check_start` meets its contract: the answers are the definition's, test by test and call by call.
-- Rests on the definitions that its contract cites; assumes nothing.
use mathlib.Core.Path.{sym, ap, ◌∙◌}
use borrow.Author.Tests.{lt-ltb, le-ltb, eq-eqb}
use Rattle.arm_machine.specs.Start.{start_refusal}
use Rattle.arm_machine.specs.Refusals.{answered}
use Rattle.arm_machine.proofs.NumberLaws.{refusal_not_0, passed_on}
use Rattle.arm_machine.proofs.check_start.Goals as goal

pub returns-in_err-check_lengths : goal.returns-in_err-check_lengths
unfolding start_refusal
returns-in_err-check_lengths c =
    passed_on c.from_residual.result c.in_err-check_lengths.field-0.0 c.from_residual.ensures.1
    ∙ rw (sym c.check_lengths.ensures ∙ ap answered c.in_err-check_lengths.was, refusal_not_0 _)

pub returns-then-declared-gt8192 : goal.returns-then-declared-gt8192
unfolding start_refusal
returns-then-declared-gt8192 c = rw (eq-eqb _ 0 (sym c.check_lengths.ensures ∙ ap answered c.in_ok-check_lengths.was), lt-ltb 8192 _ c.if-declared-gt8192.true)

pub returns-then-depth-gt32 : goal.returns-then-depth-gt32
unfolding start_refusal
returns-then-depth-gt32 c = rw (eq-eqb _ 0 (sym c.check_lengths.ensures ∙ ap answered c.in_ok-check_lengths.was), le-ltb 8192 _ c.if-declared-gt8192.false, lt-ltb 32 _ c.if-depth-gt32.true)

pub returns-then-memory-needed : goal.returns-then-memory-needed
unfolding start_refusal
returns-then-memory-needed c =
    rw (
      eq-eqb _ 0 (sym c.check_lengths.ensures ∙ ap answered c.in_ok-check_lengths.was),
      le-ltb 8192 _ c.if-declared-gt8192.false,
      le-ltb 32 _ c.if-depth-gt32.false,
      ← c.needed.ensures,
      lt-ltb _ _ c.if-memory-needed.true,
    )

pub returns : goal.returns
unfolding start_refusal
returns c =
    rw (
      eq-eqb _ 0 (sym c.check_lengths.ensures ∙ ap answered c.in_ok-check_lengths.was),
      le-ltb 8192 _ c.if-declared-gt8192.false,
      le-ltb 32 _ c.if-depth-gt32.false,
      ← c.needed.ensures,
      le-ltb _ _ c.if-memory-needed.false,
    )
