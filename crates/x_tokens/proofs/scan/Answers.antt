-- `x_tokens::scan` meets its contract. The invariant: the outcome is the tokens in the arrays, then what the rest of the source comes to.
use native.Mathlib.Omega.{arith}
use mathlib.Core.Path.{ap, ◌∙◌}
use Rattle.x_tokens.specs.TokenLaws.{before, before_read, before_refused, before_none, before_more, scan_end, step_separator, step_broken, step_full, step_fits, step_token, outcome_short}
use Rattle.x_tokens.proofs.scan.Goals as goal

pub loop-i-init : goal.loop-i-init
loop-i-init c = (omega arith, omega arith, outcome_short c.args.source.now c.requires ∙ before_none _ _ _ _)

pub loop-i-preserved-in-Separator : goal.loop-i-preserved-in-Separator
loop-i-preserved-in-Separator c =
    let turn = c.loop-i in let v = turn.invariant in (
      omega arith,
      omega arith,
      v.2 ∙ ap (before _)
          (step_separator c.args.source.now turn.i turn.n c.loop-i-test.true c.lexeme_at-found.result
          c.lexeme_at-found.ensures c.in-Separator.is),
    )

pub returns-in-Broken : goal.returns-in-Broken
returns-in-Broken c =
    let lexeme-at = c.lexeme_at-found in let loop-test = c.loop-i-test in
    let turn = c.loop-i in record {
      source_value = turn.invariant.2 ∙ ap (before _) (step_broken c.args.source.now turn.i turn.n loop-test.true lexeme-at.result _ lexeme-at.ensures c.in-Broken.is)
          ∙ before_refused _ _ _;
      few = tt;
    }

pub returns-then-n-ge1024 : goal.returns-then-n-ge1024
returns-then-n-ge1024 c =
    let lexeme-at = c.lexeme_at-found in let loop-test = c.loop-i-test in
    let turn = c.loop-i in record {
      source_value = turn.invariant.2 ∙ ap (before _)
          (step_full c.args.source.now turn.i turn.n loop-test.true lexeme-at.result _ _ _ lexeme-at.ensures c.in-Token.is
          c.if-n-ge1024.true) ∙ before_refused _ _ _;
      few = tt;
    }

pub overflow_add-i-in-Token : goal.overflow_add-i-in-Token
overflow_add-i-in-Token c =
    let lexeme-at = c.lexeme_at-found in let loop-test = c.loop-i-test in
    let turn = c.loop-i in let f = step_fits c.args.source.now turn.i turn.n loop-test.true lexeme-at.result _ _ _ lexeme-at.ensures c.in-Token.is in
    omega arith

pub loop-i-smaller : goal.loop-i-smaller
loop-i-smaller c =
    let lexeme-at = c.lexeme_at-found in let loop-test = c.loop-i-test in
    let turn = c.loop-i in let f = step_fits c.args.source.now turn.i turn.n loop-test.true lexeme-at.result _ _ _ lexeme-at.ensures c.in-Token.is in
    omega arith

pub loop-i-preserved : goal.loop-i-preserved
loop-i-preserved c = let lexeme-at = c.lexeme_at-found in let loop-test = c.loop-i-test in
    let turn = c.loop-i in let v = turn.invariant in
    let s = c.args.source.now in let i = turn.i in let n = turn.n in let h = loop-test.true in let e = lexeme-at.ensures in
    let f = step_fits s i n h lexeme-at.result _ _ _ e c.in-Token.is in (
      omega arith,
      omega arith,
      v.2 ∙ ap (before _) (step_token s i n h lexeme-at.result _ _ _ e c.in-Token.is c.if-n-ge1024.false)
          ∙ before_more turn.kinds turn.places turn.values n _ _ _ (omega arith) (omega arith) (omega arith) _,
    )

pub returns : goal.returns
returns c = record { source_value = c.loop-i.invariant.2 ∙ ap (before _) (scan_end c.args.source.now c.loop-i.i c.loop-i.n c.loop-i-test.false) ∙ before_read _; few = omega arith }
