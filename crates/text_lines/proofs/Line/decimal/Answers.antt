-- `text_lines::Line::decimal` meets its contract: a word's digits are those of the same number of 64 bits. Assumes nothing.
use mathlib.Core.Path.{ap, ◌∙◌}
use mathlib.Core.List.{List, ◌++◌}
use Prim.Native.Nat.{ℕ}
use borrow.Author.Rules.{rules}
use Rattle.text_lines.specs.Text.{written, fitted, long_decimal}
use Rattle.text_lines.specs.LineLaws.{word_decimal}
use Rattle.text_lines.proofs.Line.decimal.Goals as goal

pub returns : goal.returns
returns c =
    c.long_decimal.ensures
    ∙ ap (λ (r : List ℕ). fitted (written c.args.self ++ r)) (ap long_decimal c.from.ensures ∙ word_decimal c.args.n (search rules))
