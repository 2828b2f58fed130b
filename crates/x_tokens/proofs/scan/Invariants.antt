-- `x_tokens::scan` meets its contract. The invariant: the outcome is the tokens in the arrays, then what the rest of the source comes to.
-- Assumes nothing.
use mathlib.Core.Path.{◌≡◌}
use Prim.Native.Nat.{◌-◌, ◌≤◌}
use lib.ListN.{length, drop}
use Rattle.x_tokens.specs.TokenList.{outcome, entries}
use Rattle.x_tokens.specs.TokenList as tokens
use Rattle.x_tokens.specs.TokenLaws.{before}
use Rattle.x_tokens.proofs.scan.Given as goal

abbrev pub invariant-loop-i : goal.invariant-loop-i
invariant-loop-i l = (l.i ≤ length l.source) × (l.n ≤ 1024)
    × (outcome l.source ≡ before (entries l.kinds l.places l.values 0 l.n) (tokens.scan (drop l.i l.source) 0 l.i l.n))

abbrev pub decreases-loop-i : goal.decreases-loop-i
decreases-loop-i l = length l.source - l.i
