-- `text_refusal::reason` meets its contract: the number's sentence, or for 6 what was met and what may be meant; each fits in a line.
-- Assumes nothing.
use mathlib.Core.Path.{refl, ap, ◌∙◌}
use mathlib.Core.List.{◌++◌}
use borrow.Author.Tests.{eq-eqb, ne_eqb}
use Rattle.arm_word.specs.ChoiceLaws.{pick_t, pick_f}
use Rattle.text_lines.specs.Text.{written}
use Rattle.text_buffer.specs.Buffer.{placed}
use Rattle.text_buffer.specs.BufferLaws.{then}
use Rattle.text_refusal.specs.declared.Near.{Near}
use Rattle.text_refusal.specs.Refusal as spec
use Rattle.text_refusal.specs.RefusalRoom.{sentence_whole, met_whole, hint_whole}
use Rattle.text_refusal.proofs.reason.Goals as goal

pub returns-then-n : goal.returns-then-n
unfolding spec.reason_of
returns-then-n c = let x = c.args in
    let s = c.sentence.ensures ∙ sentence_whole x.n in
    c.append_line.ensures ∙ ap (placed x.out.now x.at) (pick_f _ _ _ _ (ne_eqb _ _ c.if-n.true) s)

pub returns : goal.returns
unfolding spec.reason_of
returns c = let x = c.args in
    let n = c.met_at-near.result in
    let said = c.met_sentence.ensures ∙ met_whole n.met in
    let meant = c.hint.ensures ∙ hint_whole n in
    let m = written c.met_sentence.result in
    c.append_line-2.ensures ∙ then _ _ _ _ m (written c.hint.result) c.append_line-said.ensures
    ∙ (λ j. placed x.out.now x.at (said j ++ meant j))
    ∙ ap (λ (m : Near). placed x.out.now x.at (spec.grammar_text m)) c.met_at-near.ensures
    ∙ ap (placed x.out.now x.at) (pick_t _ _ _ _ (eq-eqb _ _ c.if-n.false) refl)
