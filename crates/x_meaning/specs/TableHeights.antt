-- Which words a walk touches. A definition.
use Rattle.std.specs.Prelude.{ℕ, ◌<◌}
use mathlib.Core.List.{List, [], ◌∷◌}
use Rattle.arm_word.specs.Access.{Access}

-- every access lies below n
abbrev pub Below : ℕ → List Access → Type 0
Below n [] = Unit {0}
Below n (a ∷ l) = (a.offset < n) × Below n l
