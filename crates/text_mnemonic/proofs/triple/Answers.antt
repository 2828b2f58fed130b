-- `text_mnemonic::triple` meets its contract: the mnemonic with two registers, and the third, were added.
-- Assumes nothing.
use Rattle.text_lines.specs.Text.{written}
use Rattle.text_lines.specs.LineLaws.{joined}
use Rattle.text_mnemonic.specs.Mnemonic as spec
use Rattle.text_mnemonic.proofs.triple.Goals as goal

pub returns : goal.returns
returns c =
    let x = c.args in
    joined (written x.line) (spec.pair x.name.now x.d x.l) (spec.next_register x.r) _ _ c.pair.ensures c.next_register.ensures
