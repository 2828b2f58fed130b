-- Lists of ranges of numbers, each with a value. Definitions.
use Rattle.std.specs.Prelude.{ℕ, Bool, ◌&&◌, List, [], ◌∷◌, nat_le}
use Rattle.arm_word.specs.Choice.{pick}

-- the numbers from `first` to `last`, both included
abbrev pub from_to : ℕ → ℕ → ℕ → Bool
from_to first last x = nat_le first x && nat_le x last

-- such numbers, and what is said of them
pub record Range (A : Type 0) : Type 0 where
  pub first : ℕ
  pub last : ℕ
  pub value : A

abbrev pub range : {A : Type 0} → ℕ → ℕ → A → Range A
range first last value = record { first = first; last = last; value = value }

abbrev pub has : {A : Type 0} → Range A → ℕ → Bool
has r x = from_to r.first r.last x

-- what the first range says that has x; where none has it, what is given
unfoldable pub look : {A : Type 0} → A → List (Range A) → ℕ → A
look given [] x = given
look given (r ∷ more) x = pick (has r x) r.value (look given more x)
