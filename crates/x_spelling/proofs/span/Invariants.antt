-- `x_spelling::span` meets its contract. The invariant: the run from i is what was passed and the run from j.
-- Assumes nothing.
use mathlib.Core.Path.{◌≡◌}
use Prim.Native.Nat.{◌+◌}
use lib.ListN.{drop}
use Rattle.x_spelling.specs.Characters as characters
use Rattle.x_spelling.proofs.span.Given as goal

abbrev pub invariant-loop-j : goal.invariant-loop-j
invariant-loop-j l = characters.span l.class (drop l.i l.s) + l.i ≡ characters.span l.class (drop l.j l.s) + l.j
