-- `text_values::element_tail` meets its contract: subscript and word were added to an empty line, and they fit. Assumes nothing.
use mathlib.Core.Path.{ap, ◌∙◌}
use mathlib.Core.List.{List, ◌++◌}
use Prim.Native.Nat.{ℕ}
use Rattle.arm_word.specs.Ascii.{ascii}
use Rattle.text_lines.specs.Text as text
use Rattle.text_lines.specs.Text.{written, fitted}
use Rattle.text_lines.specs.LineLaws.{joined}
use Rattle.text_values.specs.ValueLaws.{element_fits}
use Rattle.text_values.proofs.element_tail.Goals as goal

pub returns : goal.returns
returns c =
    let x = c.args in
    let e = written c.empty.result in
    let o = written c.put.result in
    let tail = text.entry (ascii "]=") x.w in
    joined e (ascii "[") (text.decimal x.i ++ tail) o _ c.put.ensures (joined o (text.decimal x.i) tail _ _ c.decimal.ensures c.entry.ensures)
    ∙ ap (λ (l : List ℕ). fitted (l ++ (ascii "[" ++ (text.decimal x.i ++ tail)))) c.empty.ensures
    ∙ element_fits x.i x.w
