-- `text_mnemonic::alone` meets its contract: the mnemonic and the digits were added.
-- Assumes nothing.
use Rattle.text_lines.specs.Text.{written, decimal}
use Rattle.text_lines.specs.LineLaws.{joined}
use Rattle.text_mnemonic.proofs.alone.Goals as goal

pub returns : goal.returns
returns c =
    let x = c.args in
    joined (written x.line) x.name.now (decimal x.n) _ _ c.put_all.ensures c.decimal.ensures
