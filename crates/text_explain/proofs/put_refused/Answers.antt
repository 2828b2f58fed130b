-- `text_explain::put_refused` meets its contract: the reason after the place, or after the word alone.
-- Assumes nothing.
use mathlib.Core.Path.{refl, sym, ap, ◌∙◌}
use mathlib.Core.List.{List, ◌++◌}
use Prim.Native.Nat.{ℕ}
use Rattle.arm_word.specs.ChoiceLaws.{pick_t, pick_f}
use Rattle.arm_word.specs.Ascii.{ascii}
use Rattle.text_buffer.specs.Buffer.{placed}
use Rattle.text_buffer.specs.BufferLaws.{then}
use Rattle.text_refusal.specs.Refusal.{reason_of}
use Rattle.text_explain.specs.Explain as spec
use Rattle.text_explain.proofs.put_refused.Goals as goal

pub returns-then-placeless : goal.returns-then-placeless
returns-then-placeless c =
    let x = c.args in
    let r = reason_of x.source.now x.n x.place in
    c.reason.ensures ∙ then x.out.now _ 0 _ (ascii "refused\n") r c.append-said.ensures
    ∙ ap (λ (l : List ℕ). placed x.out.now 0 (l ++ r)) (pick_t _ _ _ _ (sym c.placeless.ensures ∙ c.if-placeless.true) refl)

pub returns : goal.returns
returns c =
    let x = c.args in
    let r = reason_of x.source.now x.n x.place in
    c.reason-2.ensures ∙ then _ _ _ _ (spec.place_text x.source.now x.place) r c.put_place-shown.ensures
    ∙ ap (λ (l : List ℕ). placed x.out.now 0 (l ++ r)) (pick_f _ _ _ _ (sym c.placeless.ensures ∙ c.if-placeless.false) refl)
