-- `front_names_table::stands_for` meets its contract. The invariant: the name stands for what it stands for among the first k names.
use mathlib.Core.Path.{sym, ap, ◌∙◌}
use Prim.Native.Nat.{◌-◌}
use Rattle.front_names_table.specs.View.{arrays, meant, bare, seen_at, lookup_found, lookup_next, lookup_none}
use Rattle.front_names_table.proofs.stands_for.Goals as goal

pub returns-then-named : goal.returns-then-named
returns-then-named c =
    λ sizes. let l = c.loop-k in let x = c.args in
    let t = arrays x.name_places.now x.name_lengths.now x.name_rows.now x.sorts.now x.words.now sizes in
    ap meant c.meaning_at.ensures ∙ seen_at t (l.k - 1)
    ∙ ap bare (sym (l.invariant sizes ∙ lookup_found _ _ t l.k c.loop-k-test.true (sym c.named.ensures ∙ c.if-named.true)))

pub loop-k-preserved : goal.loop-k-preserved
loop-k-preserved c =
    λ sizes. let l = c.loop-k in
    l.invariant sizes ∙ lookup_next _ _ _ l.k c.loop-k-test.true (sym c.named.ensures ∙ c.if-named.false)

pub returns : goal.returns
returns c = λ sizes. ap bare (sym (c.loop-k.invariant sizes ∙ lookup_none _ _ _ c.loop-k.k c.loop-k-test.false))
