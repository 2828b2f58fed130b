-- `text_mnemonic::offset` meets its contract: the mnemonic with the registers, and the number, were added.
-- Assumes nothing.
use Rattle.text_lines.specs.Text.{written}
use Rattle.text_lines.specs.LineLaws.{joined}
use Rattle.text_mnemonic.specs.Mnemonic as spec
use Rattle.text_mnemonic.proofs.offset.Goals as goal

pub returns : goal.returns
returns c =
    let x = c.args in
    joined (written x.line) (spec.pair x.name.now x.d x.r) (spec.next_number x.n) _ _ c.pair.ensures c.next_number.ensures
