-- `text_disassembly::whole` meets its contract: nothing was added to a first halfword below F000, else a space and the second.
-- Assumes nothing.
use mathlib.Core.Path.{◌≡◌, refl, ap, ◌∙◌}
use mathlib.Core.List.{List, [], ◌++◌}
use Prim.Native.Nat.{ℕ}
use lib.ListN.{length}
use borrow.Author.Rules.{rules}
use borrow.Author.Tests.{lt-ltb, le-ltb}
use Rattle.arm_word.specs.ChoiceLaws.{pick_t, pick_f}
use Rattle.arm_word.specs.Ascii.{ascii}
use Rattle.text_lines.specs.Text.{written, fitted, hexadecimal}
use Rattle.text_lines.specs.LineLaws.{joined, put_none}
use Rattle.text_disassembly.specs.Disassembly.{second}
use Rattle.text_disassembly.proofs.whole.Goals as goal

pub returns-then-first-lt61440 : goal.returns-then-first-lt61440
unfolding second
returns-then-first-lt61440 c =
    let x = c.args in
    let e : length x.line.bytes ≡ 128 = search rules in
    put_none x.line.bytes x.line.length e
    ∙ ap (λ (r : List ℕ). fitted (written x.line ++ r)) (pick_t [] [] (ascii " " ++ hexadecimal x.second) _ (lt-ltb x.first 0xF000 c.if-first-lt61440.true) refl)

pub returns : goal.returns
unfolding second
returns c =
    let x = c.args in
    let more = ascii " " ++ hexadecimal x.second in
    joined (written x.line) (ascii " ") (hexadecimal x.second) _ _ c.put.ensures c.hexadecimal.ensures
    ∙ ap (λ (r : List ℕ). fitted (written x.line ++ r)) (pick_f more [] more _ (le-ltb x.first 0xF000 c.if-first-lt61440.false) refl)
