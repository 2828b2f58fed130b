-- `text_names::put_names` meets its contract: a comment or a specification more, until neither stands next. Assumes nothing.
use lib.ListN.{get_or, get_or-eq_default, length}
use mathlib.Core.List.{[]}
use mathlib.Core.Path.{◌≡◌, sym, ◌∙◌}
use Prim.Native.Nat.{◌+◌, ◌<◌, ◌≤◌}
use native.Mathlib.Omega.{arith}
use borrow.Author.Rules.{rules}
use lib.ListN.{length-set, length-replicate}
use Rattle.std.proofs.lemmas.List.{length-map}
use Rattle.text_names.specs.declared.Declared.{Declared}
use Rattle.front_names_judge.specs.Judge.{width_small}
use Rattle.text_names.specs.NamesSoFar.{tokens_of, words_of, constant_first, remembered}
use Rattle.text_names.specs.Walk.{walk_start, walk_end, walk_comment, next_room, walk_next}
use Rattle.text_names.proofs.put_names.Goals as goal

pub loop-i-init : goal.loop-i-init
loop-i-init c = let a = c.args in record {
  room = length-replicate {A = Declared} 1024 (record { token = 0; word = 0 });
  few = omega arith;
  walking = walk_start a.source.now a.tokens.kinds.now a.tokens.places.now a.tokens.values.now a.out.now _ _ a.at c.requires;
}

pub loop-i-preserved-in-3 : goal.loop-i-preserved-in-3
loop-i-preserved-in-3 c =
    let a = c.args in
    let l = c.loop-i in record {
      room = l.invariant.room;
      few = omega (arith, l.invariant.few);
      walking = walk_comment a.source.now a.tokens.kinds.now a.tokens.places.now a.tokens.values.now a.out.now a.at (tokens_of l.names) (words_of l.names) l.out l.end l.i l.count l.used l.invariant.walking
          (sym c.kind_at.ensures ∙ c.in-3.is);
    }

pub returns-in_default : goal.returns-in_default
returns-in_default c =
    let a = c.args in
    let l = c.loop-i in
    let other : c.kind_at.result ≡ 3 → ⊥ = search rules in
    walk_end a.source.now a.tokens.kinds.now a.tokens.places.now a.tokens.values.now a.out.now a.at (tokens_of l.names) (words_of l.names) l.out l.end l.i l.count l.used l.invariant.walking
    (λ e. other (c.kind_at.ensures ∙ e)) (λ h. omega (arith, h.0, c.kind_at.ensures))

pub returns-in_default-2 : goal.returns-in_default-2
returns-in_default-2 c =
    let a = c.args in
    let l = c.loop-i in
    let other : c.kind_at.result ≡ 3 → ⊥ = search rules in
    walk_end a.source.now a.tokens.kinds.now a.tokens.places.now a.tokens.values.now a.out.now a.at (tokens_of l.names) (words_of l.names) l.out l.end l.i l.count l.used l.invariant.walking
    (λ e. other (c.kind_at.ensures ∙ e)) (λ h. omega (arith, h.1, c.kind_at.ensures))

pub overflow_add-used : goal.overflow_add-used
overflow_add-used c =
    let a = c.args in
    let l = c.loop-i in
    let low : l.count ≤ length l.names = omega (arith, l.invariant.room, l.invariant.few, c.requires.few, c.loop-i-test.true) in
    let w = c.constant_word-w.ensures ∙ constant_first a.source.now a.tokens.kinds.now a.tokens.places.now a.tokens.values.now l.names l.count (l.i + 3) low in
    let fits = next_room a.source.now a.tokens.kinds.now a.tokens.places.now a.tokens.values.now a.out.now a.at (tokens_of l.names) (words_of l.names) l.out l.end l.i l.count l.used l.invariant.walking
    c.kind_at.result c.constant_word-w.result 0 c.item_words-used.result 0 [] c.kind_at.ensures (omega arith) (omega arith) w c.item_words-used.ensures c.requires.small in
    omega (arith, fits)

pub loop-i-preserved : goal.loop-i-preserved
loop-i-preserved c =
    let a = c.args in
    let l = c.loop-i in
    let d : Declared = record { token = l.i + 1; word = c.item_value.result } in
    let low : l.count < length l.names = omega (arith, l.invariant.room, l.invariant.few, c.requires.few, c.loop-i-test.true) in
    let w = c.constant_word-w.ensures ∙ constant_first a.source.now a.tokens.kinds.now a.tokens.places.now a.tokens.values.now l.names l.count (l.i + 3) (omega (arith, low)) in
    let g = walk_next a.source.now a.tokens.kinds.now a.tokens.places.now a.tokens.values.now a.out.now a.at (tokens_of l.names) (words_of l.names) l.out l.end l.i l.count l.used l.invariant.walking
    c.kind_at.result c.constant_word-w.result c.item_value.result c.item_words-used.result c.width-i.result _ c.kind_at.ensures (omega arith) (omega arith) w
    c.item_words-used.ensures _ _ (omega (arith, low, length-map l.names (λ (d : Declared). d.token))) (omega (arith, low, length-map l.names (λ (d : Declared). d.word)))
    c.item_value.ensures c.width-i.ensures c.token_text-text.ensures c.put_item-end.ensures in record {
      room = length-set l.names l.count d ∙ l.invariant.room;
      few = omega (arith, l.invariant.few, c.width-i.ensures, (width_small c.kind_at.result).0);
      walking = remembered a.source.now a.tokens.kinds.now a.tokens.places.now a.tokens.values.now l.names l.count (l.i + 1) c.item_value.result g;
    }

pub returns : goal.returns
returns c =
    let a = c.args in
    let l = c.loop-i in
    let z : get_or a.tokens.kinds.now l.i 0 ≡ 0 = get_or-eq_default a.tokens.kinds.now 0 {n = l.i} c.loop-i-test.false in
    walk_end a.source.now a.tokens.kinds.now a.tokens.places.now a.tokens.values.now a.out.now a.at (tokens_of l.names) (words_of l.names) l.out l.end l.i l.count l.used l.invariant.walking
    (λ e. omega (arith, e, z)) (λ h. omega (arith, h.0, z))
