-- `text_names::put_signed` meets its contract, by its test.
-- Assumes nothing.
use mathlib.Core.Path.{◌≡◌, ap, ◌∙◌}
use mathlib.Core.List.{List, [], ◌∷◌, ◌++◌}
use Prim.Native.Nat.{ℕ, ◌-◌, ◌<◌}
use native.Mathlib.Omega.{arith}
use Rattle.text_lines.specs.Text.{written, fitted, decimal}
use Rattle.text_lines.specs.LineLaws.{joined}
use Rattle.text_names.specs.Lines.{signed_low, signed_high}
use borrow.Author.Rules.{rules}
use Rattle.text_names.proofs.put_signed.Goals as goal

pub returns-then-w-lt2147483648 : goal.returns-then-w-lt2147483648
returns-then-w-lt2147483648 c =
    let x = c.args in
    c.decimal.ensures ∙ ap (λ (r : List ℕ). fitted (written x.line ++ r)) (signed_low x.w c.if-w-lt2147483648.true)

pub returns : goal.returns
returns c =
    let x = c.args in
    let fits : x.w < 4294967296 = search rules in
    let e : c.wrapping_neg.result ≡ 4294967296 - x.w = omega (arith, c.wrapping_neg.ensures) in
    joined (written x.line) (45 ∷ []) (decimal c.wrapping_neg.result) _ _ c.put.ensures c.decimal-2.ensures
    ∙ ap (λ (m : ℕ). fitted (written x.line ++ (45 ∷ decimal m))) e
    ∙ ap (λ (r : List ℕ). fitted (written x.line ++ r)) (signed_high x.w c.if-w-lt2147483648.false)
