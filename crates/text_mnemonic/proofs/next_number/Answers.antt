-- `text_mnemonic::next_number` meets its contract: the comma and the digits were added.
-- Assumes nothing.
use Rattle.text_lines.specs.Text.{written, decimal}
use Rattle.arm_word.specs.Ascii.{ascii}
use Rattle.text_lines.specs.LineLaws.{joined}
use Rattle.text_mnemonic.proofs.next_number.Goals as goal

pub returns : goal.returns
returns c =
    let x = c.args in
    joined (written x.line) (ascii ",") (decimal x.n) _ _ c.put.ensures c.decimal.ensures
