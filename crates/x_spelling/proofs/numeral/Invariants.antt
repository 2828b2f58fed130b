-- `x_spelling::numeral` meets its contract. The invariant: cut off at 2^32, the whole number is what the digits left make after those read.
-- Assumes nothing.
use mathlib.Core.Path.{◌≡◌}
use Prim.Native.Nat.{◌≤◌, min}
use lib.ListN.{drop}
use Rattle.x_spelling.specs.Characters as characters
use Rattle.x_spelling.proofs.numeral.Given as goal

abbrev pub invariant-loop-j : goal.invariant-loop-j
invariant-loop-j l = (l.a ≤ 4294967296) × (min (characters.numeral l.base (drop l.i l.s) 0) 4294967296 ≡ min (characters.numeral l.base (drop l.j l.s) l.a) 4294967296)
