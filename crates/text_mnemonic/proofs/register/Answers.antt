-- `text_mnemonic::register` meets its contract: the letter and the digits were added.
-- Assumes nothing.
use Rattle.text_lines.specs.Text.{written, decimal}
use Rattle.arm_word.specs.Ascii.{ascii}
use Rattle.text_lines.specs.LineLaws.{joined}
use Rattle.text_mnemonic.proofs.register.Goals as goal

pub returns : goal.returns
returns c =
    let x = c.args in
    joined (written x.line) (ascii "r") (decimal x.r) _ _ c.put.ensures c.decimal.ensures
