-- `text_names::put_right` meets its contract: one digit stands behind one column fewer of spaces; else the front digits do, and the last one follows.
-- Assumes nothing.
use mathlib.Core.Path.{ap, ◌∙◌}
use mathlib.Core.List.{List, ◌++◌}
use native.Mathlib.Omega.{arith}
use borrow.Author.Rules.{rules}
use Rattle.text_lines.specs.Text.{written, fitted, decimal}
use Rattle.text_lines.specs.LineLaws.{joined}
use Rattle.text_position.specs.Position.{spaces}
use Rattle.text_names.specs.Names.{right}
use Rattle.text_names.specs.Lines.{right_one, right_step}
use Prim.Native.Nat.{ℕ, ◌<◌, ◌/◌, ◌%◌}
use Rattle.text_names.proofs.+put_right.Goals as goal

pub returns-then-n-lt10 : goal.returns-then-n-lt10
returns-then-n-lt10 t c =
    let x = c.args in
    let l = written x.line in
    let k = c.saturating_sub-before.result in
    joined l (spaces k) (decimal x.n) _ _ c.put_spaces.ensures c.decimal.ensures
    ∙ ap (λ (m : ℕ). fitted (l ++ (spaces m ++ decimal x.n))) c.saturating_sub-before.ensures
    ∙ ap (λ (r : List ℕ). fitted (l ++ r)) (right_one x.columns x.n c.if-n-lt10.true)

pub returns : goal.returns
returns t c =
    let x = c.args in
    let l = written x.line in
    let k = c.saturating_sub-before.result in
    let fits : x.n < 4294967296 = search rules in
    joined l (right k (decimal (x.n / 10))) (decimal (x.n % 10)) _ _ c.put_right.ensures c.decimal-2.ensures
    ∙ ap (λ (m : ℕ). fitted (l ++ (right m (decimal (x.n / 10)) ++ decimal (x.n % 10)))) c.saturating_sub-before.ensures
    ∙ ap (λ (r : List ℕ). fitted (l ++ r)) (right_step x.columns x.n c.if-n-lt10.false (omega arith))
