-- `text_names::put_name` meets its contract: three texts, one after another.
-- Assumes nothing.
use mathlib.Core.Path.{◌∙◌}
use mathlib.Core.List.{◌++◌}
use Rattle.text_lines.specs.Text.{written}
use Rattle.text_buffer.specs.BufferLaws.{then}
use Rattle.text_names.proofs.put_name.Goals as goal

pub returns : goal.returns
returns c =
    let x = c.args in
    c.append_line.ensures ∙ then _ _ _ _ x.name.now (written x.tail) c.append-named.ensures ∙ then _ _ _ _ (written x.head) (x.name.now ++ written x.tail) c.append_line-headed.ensures
