-- `text_explain::place_line` meets its contract: words and numbers were added to an empty line, and they fit.
-- Assumes nothing.
use mathlib.Core.Path.{ap, ◌∙◌}
use mathlib.Core.List.{List, ◌++◌}
use Prim.Native.Nat.{ℕ, ◌+◌}
use Rattle.arm_word.specs.Ascii.{ascii}
use Rattle.text_lines.specs.Text.{written, fitted, decimal, entry}
use Rattle.text_lines.specs.LineLaws.{joined}
use Rattle.text_explain.specs.Explain as spec
use Rattle.text_explain.specs.ExplainLaws.{place_fits}
use Rattle.text_explain.proofs.place_line.Goals as goal

pub returns : goal.returns
unfolding spec.place_line
returns c =
    let x = c.args in
    let l = c.lines_before.result in
    let k = c.left_of.result in
    let w0 = written c.empty.result in
    let w1 = written c.put_all.result in
    let w2 = written c.decimal.result in
    let s2 = joined w1 (decimal (l + 1)) (entry (ascii ", column ") (k + 1)) w2 _ c.decimal.ensures c.entry.ensures in
    let s1 = joined w0 (ascii "refused: line ") (decimal (l + 1) ++ entry (ascii ", column ") (k + 1)) w1 _ c.put_all.ensures s2 in
    s1 ∙ ap (λ (e : List ℕ). fitted (e ++ (ascii "refused: line " ++ (decimal (l + 1) ++ entry (ascii ", column ") (k + 1))))) c.empty.ensures
    ∙ (λ j. fitted (ascii "refused: line " ++ (decimal (c.lines_before.ensures.0 j + 1) ++ entry (ascii ", column ") (c.left_of.ensures.0 j + 1))))
    ∙ place_fits x.source.now x.place
