-- `text_mnemonic::immediate` meets its contract: the mnemonic with the register, and the number, were added.
-- Assumes nothing.
use Rattle.text_lines.specs.Text.{written}
use Rattle.text_lines.specs.LineLaws.{joined}
use Rattle.text_mnemonic.specs.Mnemonic as spec
use Rattle.text_mnemonic.proofs.immediate.Goals as goal

pub returns : goal.returns
returns c =
    let x = c.args in
    joined (written x.line) (spec.single x.name.now x.d) (spec.next_number x.n) _ _ c.single.ensures c.next_number.ensures
