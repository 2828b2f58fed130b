-- `text_mnemonic::next_register` meets its contract: the comma and the register were added.
-- Assumes nothing.
use Rattle.text_lines.specs.Text.{written}
use Rattle.arm_word.specs.Ascii.{ascii}
use Rattle.text_lines.specs.LineLaws.{joined}
use Rattle.text_mnemonic.specs.Mnemonic as spec
use Rattle.text_mnemonic.proofs.next_register.Goals as goal

pub returns : goal.returns
returns c =
    let x = c.args in
    joined (written x.line) (ascii ",") (spec.register x.r) _ _ c.put.ensures c.register.ensures
