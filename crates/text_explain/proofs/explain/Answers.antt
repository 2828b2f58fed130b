-- `text_explain::explain` meets its contract: what the translation into the two arrays answered decides which text is put at the front.
-- Assumes nothing.
use mathlib.Core.Path.{◌≡◌, refl, ap, ◌∙◌}
use borrow.Author.Tests.{eq-eqb, ne_eqb}
use Rattle.arm_word.specs.ChoiceLaws.{pick_t, pick_f}
use Rattle.text_buffer.specs.Buffer.{placed}
use Rattle.text_buffer.specs.BufferLaws.{front}
use Rattle.text_explain.specs.Explain as spec
use Rattle.text_explain.specs.ExplainLaws.{explained_is, accepted_small, refused_small}
use Rattle.text_explain.proofs.explain.Goals as goal

pub put_accepted-requires : goal.put_accepted-requires
put_accepted-requires c = accepted_small _ _ _ _ c.translate-t.ensures c.if-t-eq0.true

pub returns-then-t-eq0 : goal.returns-then-t-eq0
returns-then-t-eq0 c =
    let x = c.args in
    let s = x.source.now in
    let t = c.translate-t.result in
    let is : spec.accepted_text s t ≡ spec.explain_of s = pick_t _ _ _ _ (eq-eqb _ _ c.if-t-eq0.true) refl ∙ explained_is s _ _ t c.translate-t.ensures in
    front x.out.now _ _ (spec.explain_of s) (c.put_accepted.ensures ∙ ap (placed x.out.now 0) is)

pub put_refused-requires : goal.put_refused-requires
put_refused-requires c = refused_small _ _ _ _ c.translate-t.ensures

pub returns : goal.returns
returns c =
    let x = c.args in
    let s = x.source.now in
    let t = c.translate-t.result in
    let is : spec.refused_text s t.status t.place ≡ spec.explain_of s = pick_f _ _ _ _ (ne_eqb _ _ c.if-t-eq0.false) refl ∙ explained_is s _ _ t c.translate-t.ensures in
    front x.out.now _ _ (spec.explain_of s) (c.put_refused.ensures ∙ ap (placed x.out.now 0) is)
