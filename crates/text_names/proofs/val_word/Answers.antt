-- `text_names::val_word` meets its contract, from the latest name to the first. Assumes nothing.
use mathlib.Core.Path.{◌≡◌, sym, ◌∙◌}
use mathlib.Core.Bool.{true, false}
use Prim.Native.Nat.{◌-◌}
use lib.ListN.{get_or, get_or-map}
use Rattle.x_names.specs.Scope.{same}
use Rattle.front_names_table.specs.View.{text_at}
use Rattle.text_names.specs.declared.Declared.{Declared}
use Rattle.text_names.specs.NamesSoFar.{tokens_of, words_of}
use Rattle.text_names.specs.Walk.{found_here, found_next, found_none}
use Rattle.text_names.proofs.val_word.Goals as goal

abbrev none : Declared
none = record { token = 0; word = 0 }

pub returns-then-is_spelt : goal.returns-then-is_spelt
returns-then-is_spelt c =
    let x = c.args in
    let k = c.loop-k.k in
    let names = x.names.now in
    let text = text_at x.source.now x.tokens.places.now x.tokens.values.now in
    let is : same (text (get_or (tokens_of names) (k - 1) 0)) (text x.t) ≡ true =
    (λ j. same (text (get_or-map (λ (d : Declared). d.token) names (k - 1) none j)) (sym c.token_text-text.ensures j)) ∙ sym c.is_spelt.ensures ∙ c.if-is_spelt.true in
    sym (c.loop-k.invariant ∙ found_here _ _ _ (tokens_of names) (words_of names) (text x.t) k c.loop-k-test.true is ∙ get_or-map (λ (d : Declared). d.word) names (k - 1) none)

pub loop-k-preserved : goal.loop-k-preserved
loop-k-preserved c =
    let x = c.args in
    let k = c.loop-k.k in
    let names = x.names.now in
    let text = text_at x.source.now x.tokens.places.now x.tokens.values.now in
    let is : same (text (get_or (tokens_of names) (k - 1) 0)) (text x.t) ≡ false =
    (λ j. same (text (get_or-map (λ (d : Declared). d.token) names (k - 1) none j)) (sym c.token_text-text.ensures j)) ∙ sym c.is_spelt.ensures ∙ c.if-is_spelt.false in
    c.loop-k.invariant ∙ found_next _ _ _ (tokens_of names) (words_of names) (text x.t) k c.loop-k-test.true is

pub returns : goal.returns
returns c =
    let x = c.args in
    let names = x.names.now in
    sym (c.loop-k.invariant ∙ found_none _ _ _ (tokens_of names) (words_of names) (text_at x.source.now x.tokens.places.now x.tokens.values.now x.t) c.loop-k.k c.loop-k-test.false)
