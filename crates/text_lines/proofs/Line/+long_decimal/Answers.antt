-- `text_lines::Line::long_decimal` meets its contract: all digits but the last by the call of itself, on a smaller number, then the last.
-- Assumes nothing.
use Rattle.std.proofs.Common.{sym, ap, ◌∙◌, ◌<◌, ◌/◌, List, [], ◌∷◌, ◌++◌, ℕ, arith, rules}
use Rattle.text_lines.specs.Text as spec
use Rattle.text_lines.specs.Text.{written, fitted}
use Rattle.text_lines.specs.LineLaws.{joined, digits_one, digits_step}
use Rattle.text_lines.proofs.Line.+long_decimal.Goals as goal

pub returns-then-n-lt10 : goal.returns-then-n-lt10
returns-then-n-lt10 t c =
    let l = written c.args.self in
    let n = c.args.n in
    c.put.ensures ∙ ap (λ (d : ℕ). fitted (l ++ (d ∷ []))) c.digit.ensures ∙ ap (λ (r : List ℕ). fitted (l ++ r)) (sym (digits_one 18 n c.if-n-lt10.true))

pub returns : goal.returns
returns t c =
    let l = written c.args.self in
    let n = c.args.n in
    let fits : n < 18446744073709551616 = search rules in
    let d = c.digit-2.result in
    joined l (spec.long_decimal (n / 10)) (d ∷ []) _ _ c.long_decimal.ensures c.put-2.ensures
    ∙ ap (λ (x : ℕ). fitted (l ++ (spec.long_decimal (n / 10) ++ (x ∷ [])))) c.digit-2.ensures
    ∙ ap (λ (r : List ℕ). fitted (l ++ r)) (sym (digits_step 18 n c.if-n-lt10.false (omega arith)))
