-- `text_values::elements` meets its contract: a line more behind those that are put. Assumes nothing.
use mathlib.Core.Path.{◌≡◌, refl, ap, ◌∙◌}
use mathlib.Core.List.{List, ◌++◌}
use Prim.Native.Nat.{ℕ, ◌+◌}
use native.Mathlib.Numerals.{add-one}
use lib.ListN.{get_or}
use Rattle.text_lines.specs.Text.{written}
use Rattle.text_buffer.specs.Buffer.{placed}
use Rattle.text_buffer.specs.BufferLaws.{none, then}
use Rattle.text_values.specs.Values.{subscripted, element_line, element_lines}
use Rattle.text_values.proofs.elements.Goals as goal

pub loop-i-init : goal.loop-i-init
unfolding element_lines
loop-i-init c = none c.args.out.now c.args.at

pub loop-i-preserved : goal.loop-i-preserved
unfolding element_lines
loop-i-preserved c =
    let x = c.args in
    let l = c.loop-i in
    let p = c.put_line-end in
    let tail = c.element_tail in
    let line = element_line x.name.now l.i (get_or x.words.now (x.first + l.i) 0) in
    let is : x.name.now ++ written tail.result ≡ line = ap (λ (r : List ℕ). x.name.now ++ r) (tail.ensures ∙ ap (subscripted l.i) c.word_at-w.ensures) in
    p.ensures ∙ ap (placed l.out l.end) is ∙ then _ _ _ _ (element_lines x.words.now x.first x.name.now l.i) line l.invariant ∙ rw add-one refl
