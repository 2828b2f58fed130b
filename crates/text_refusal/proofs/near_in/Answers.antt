-- `text_refusal::near_in` meets its contract. The loop's invariant: what is looked for is looked for in the tokens that are left.
use mathlib.Core.Path.{◌≡◌, sym, ◌∙◌}
use mathlib.Core.List.{◌∷◌}
use mathlib.Core.Logic.{inl, inr}
use native.Mathlib.Omega.{arith}
use borrow.Author.Rules.{rules}
use lib.ListN.{length}
use Rattle.std.proofs.Common.{min}
use Rattle.x_tokens.specs.TokenList.{entries}
use Rattle.text_refusal.specs.Refusal.{near_in}
use Rattle.text_refusal.specs.RefusalLaws.{near_any, left_here, left_next, left_end}
use Rattle.text_refusal.proofs.near_in.Goals as goal

pub loop-kind-init : goal.loop-kind-init
loop-kind-init c = λ vs ws.
    let x = c.args in
    let r = c.into_iter-kind-iterator.result in
    let k : r.a.rest.now ≡ x.kinds.now = search rules in
    let p : r.b.rest.now ≡ x.places.now = search rules in
    (λ j. near_in (entries (k j) (p j) vs 0 (min (length (k j)) (length (p j)))) x.place 0 0)
    ∙ near_any x.kinds.now x.places.now vs ws x.place (min (length x.kinds.now) (length x.places.now)) 0 0 0

pub returns-then-place-at : goal.returns-then-place-at
returns-then-place-at c = λ vs.
    let l = c.loop-kind in
    let n = c.next.new.self in
    let k = sym c.in-Some.ensures.steps.0 in
    let p = sym c.in-Some.ensures.steps.1 in
    sym (left_here c.in-Some.kind.now c.in-Some.at.now n.a.rest.now n.b.rest.now vs c.args.place l.before l.previous c.if-place-at.true)
    ∙ (λ j. near_in (entries (k j) (p j) vs 0 (min (length (k j)) (length (p j)))) c.args.place l.before l.previous)
    ∙ l.invariant vs vs

pub loop-kind-preserved : goal.loop-kind-preserved
loop-kind-preserved c = λ vs ws.
    let l = c.loop-kind in
    let n = c.next.new.self in
    let k = sym c.in-Some.ensures.steps.0 in
    let p = sym c.in-Some.ensures.steps.1 in
    left_next c.in-Some.kind.now c.in-Some.at.now n.a.rest.now n.b.rest.now vs c.args.place l.before l.previous c.if-place-at.false
    ∙ (λ j. near_in (entries (k j) (p j) (0 ∷ vs) 0 (min (length (k j)) (length (p j)))) c.args.place l.before l.previous)
    ∙ l.invariant (0 ∷ vs) ws

pub returns : goal.returns
returns c = λ vs.
    let l = c.loop-kind in
    let ks = l.kind-iterator.a.rest.now in
    let ps = l.kind-iterator.b.rest.now in
    let z : min (length ks) (length ps) ≡ 0 = elim c.in-None.ensures.steps [ inl s ↦ omega (arith, s.1.0) | inr s ↦ omega (arith, s.1.0) ] in
    sym (left_end ks ps vs c.args.place l.before l.previous z) ∙ l.invariant vs vs
