-- `text_mnemonic::single` meets its contract: the mnemonic and the register were added.
-- Assumes nothing.
use Rattle.text_lines.specs.Text.{written}
use Rattle.text_lines.specs.LineLaws.{joined}
use Rattle.text_mnemonic.specs.Mnemonic as spec
use Rattle.text_mnemonic.proofs.single.Goals as goal

pub returns : goal.returns
returns c =
    let x = c.args in
    joined (written x.line) x.name.now (spec.register x.d) _ _ c.put_all.ensures c.register.ensures
