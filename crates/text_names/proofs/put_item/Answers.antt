-- `text_names::put_item` meets its contract, sort by sort; heads and tails fit in a line.
-- Assumes nothing.
use Prim.Native.Nat.{ℕ}
use Rattle.std.specs.Prelude.{eqb}
use mathlib.Core.Path.{◌≡◌, ap, ◌∙◌}
use mathlib.Core.List.{◌++◌}
use native.Mathlib.Omega.{arith}
use borrow.Author.Tests.{eq-eqb}
use Rattle.arm_word.specs.ChoiceLaws.{pick_t, pick_f}
use Rattle.arm_word.specs.Ascii.{ascii}
use Rattle.text_lines.specs.Text.{written}
use Rattle.text_buffer.specs.Buffer.{placed}
use Rattle.text_names.specs.Lines.{head_fits}
use Rattle.text_names.specs.Walk.{item_line}
use Rattle.text_names.proofs.put_item.Goals as goal

pub returns-in-13 : goal.returns-in-13
returns-in-13 c =
    let x = c.args in
    let h = c.data_head.ensures ∙ head_fits (ascii "var  ") x.used 1 (omega arith) in
    let is : written c.data_head.result ++ (x.name.now ++ written c.line_end.result) ≡ item_line x.k x.used x.w x.name.now =
    pick_t _ _ _ _ (eq-eqb _ _ c.in-13.is) (λ j. h j ++ (x.name.now ++ c.line_end.ensures j)) in
    c.put_name.ensures ∙ ap (placed x.out.now x.at) is

pub returns-in-14 : goal.returns-in-14
returns-in-14 c =
    let x = c.args in
    let h = c.data_head-in-14.ensures ∙ head_fits (ascii "array") x.used x.w (omega arith) in
    let is : written c.data_head-in-14.result ++ (x.name.now ++ written c.line_end-in-14.result) ≡ item_line x.k x.used x.w x.name.now =
    pick_f _ _ _ _ (ap (λ (n : ℕ). eqb n 13) c.in-14.is) (pick_t _ _ _ _ (eq-eqb _ _ c.in-14.is) (λ j. h j ++ (x.name.now ++ c.line_end-in-14.ensures j))) in
    c.put_name-in-14.ensures ∙ ap (placed x.out.now x.at) is
