-- `text_values::put_line` meets its contract: two texts, one after the other. Assumes nothing.
use mathlib.Core.Path.{◌∙◌}
use Rattle.text_lines.specs.Text.{written}
use Rattle.text_buffer.specs.BufferLaws.{then}
use Rattle.text_values.proofs.put_line.Goals as goal

pub returns : goal.returns
returns c =
    let x = c.args in
    c.append_line.ensures ∙ then _ _ _ _ x.name.now (written x.tail) c.append-named.ensures
