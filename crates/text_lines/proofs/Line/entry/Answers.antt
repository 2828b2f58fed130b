-- `text_lines::Line::entry` meets its contract: name, digits and line feed were added one after another.
-- Assumes nothing.
use mathlib.Core.List.{[], ◌∷◌, ◌++◌}
use Rattle.text_lines.specs.Text as spec
use Rattle.text_lines.specs.Text.{written}
use Rattle.text_lines.specs.LineLaws.{joined}
use Rattle.text_lines.proofs.Line.entry.Goals as goal

pub returns : goal.returns
returns c =
    let x = c.args in
    let digits = spec.decimal x.n in
    let named = written c.put_all.result in
    joined (written x.self) x.name.now (digits ++ (10 ∷ [])) named _ c.put_all.ensures
    (joined named digits (10 ∷ []) _ _ c.decimal.ensures c.put.ensures)
