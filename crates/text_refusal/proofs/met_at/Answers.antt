-- `text_refusal::met_at` meets its contract: the search goes through the source's n tokens, the first n cells of the arrays.
-- Assumes nothing.
use native.Mathlib.Omega.{arith}
use mathlib.Core.Path.{◌≡◌, sym, ap, ◌∙◌}
use mathlib.Core.List.{List}
use Prim.Native.Nat.{ℕ}
use lib.ListN.{length, take}
use lib.Seq.{length-take-le}
use Rattle.std.proofs.Common.{min}
use Rattle.x_tokens.specs.TokenList.{Entry, Outcome, entries}
use Rattle.text_refusal.specs.Refusal as spec
use Rattle.text_refusal.specs.Refusal.{near_in, no_token}
use Rattle.text_refusal.specs.RefusalLaws.{entries_front}
use Rattle.text_refusal.proofs.met_at.Goals as goal

pub returns-in-Ok : goal.returns-in-Ok
returns-in-Ok c =
    let x = c.args in
    let n = c.in-Ok.n in
    let t = c.tokens-s.new in
    let few = c.in-Ok.ensures.few in
    let k = length-take-le n t.kinds (omega (arith, few)) in
    let p = length-take-le n t.places (omega (arith, few)) in
    let m : min (length (take n t.kinds)) (length (take n t.places)) ≡ n = omega (arith, k, p) in
    c.near_in.ensures t.values
    ∙ ap (λ (m : ℕ). near_in (entries (take n t.kinds) (take n t.places) t.values 0 m) x.place no_token no_token) m
    ∙ ap (λ (es : List Entry). near_in es x.place no_token no_token) (entries_front n t.kinds t.places t.values n 0 (omega arith))
    ∙ ap (λ (o : Outcome). spec.near o x.place) (sym c.in-Ok.ensures.source_value)
