-- `text_explain::put_place` meets its contract: three lines, one after another.
-- Assumes nothing.
use mathlib.Core.Path.{◌∙◌}
use mathlib.Core.List.{◌++◌}
use Rattle.text_lines.specs.Text.{written}
use Rattle.text_buffer.specs.Buffer.{placed}
use Rattle.text_buffer.specs.BufferLaws.{then}
use Rattle.text_explain.proofs.put_place.Goals as goal

pub returns : goal.returns
returns c =
    let x = c.args in
    let p = c.place_line in
    let s = c.shown_line in
    let k = c.caret_line in
    c.append_line.ensures ∙ then _ _ _ _ (written s.result) (written k.result) c.append_line-shown.ensures ∙ then _ _ _ _ (written p.result)
    (written s.result ++ written k.result) c.append_line-lined.ensures
    ∙ (λ j. placed x.out.now 0 (p.ensures j ++ (s.ensures j ++ k.ensures j)))
