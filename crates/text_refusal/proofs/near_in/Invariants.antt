-- `text_refusal::near_in` meets its contract. The loop's invariant: what is looked for is looked for in the tokens that are left.
-- Assumes nothing.
use mathlib.Core.Path.{◌≡◌}
use mathlib.Core.List.{List}
use Prim.Native.Nat.{ℕ}
use lib.ListN.{length}
use Rattle.std.proofs.Common.{min}
use Rattle.x_tokens.specs.TokenList.{entries}
use Rattle.text_refusal.specs.Refusal.{near_in, no_token}
use Rattle.text_refusal.proofs.near_in.Given as goal

abbrev pub invariant-loop-kind : goal.invariant-loop-kind
invariant-loop-kind l =
    let ks = l.kind-iterator.a.rest.now in
    let ps = l.kind-iterator.b.rest.now in
    (vs ws : List ℕ) → near_in (entries ks ps vs 0 (min (length ks) (length ps))) l.place l.before l.previous ≡ near_in
    (entries l.kinds l.places ws 0 (min (length l.kinds) (length l.places))) l.place no_token no_token
