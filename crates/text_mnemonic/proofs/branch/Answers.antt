-- `text_mnemonic::branch` meets its contract: the mnemonic and the address that the branch goes to were added.
-- Assumes nothing.
use mathlib.Core.Path.{ap, ◌∙◌}
use mathlib.Core.List.{◌++◌}
use Prim.Native.Nat.{ℕ}
use Rattle.arm_word.specs.Word.{add}
use Rattle.text_lines.specs.Text.{written, fitted, hexadecimal}
use Rattle.text_lines.specs.LineLaws.{joined}
use Rattle.text_mnemonic.proofs.branch.Goals as goal

pub returns : goal.returns
returns c =
    let x = c.args in
    let l = written x.line in
    let to =
    c.add-to.ensures
    ∙ ap (λ (n : ℕ). add n c.add-2.result) c.add.ensures
    ∙ ap (λ (n : ℕ). add (add x.at 4) n) c.add-2.ensures in
    joined l x.name.now (hexadecimal c.add-to.result) _ _ c.put_all.ensures c.hexadecimal.ensures
    ∙ ap (λ (n : ℕ). fitted (l ++ (x.name.now ++ hexadecimal n))) to
