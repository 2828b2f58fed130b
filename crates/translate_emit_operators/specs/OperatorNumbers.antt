-- An operator's number that is none of the first thirteen stands for the last diadic operator. Laws; assume nothing.
use Rattle.std.specs.Prelude.{◌≡◌, ℕ, zero, suc}
use Rattle.std.proofs.Common.{ne_eqb}
use Rattle.x_program.specs.Tree.{at_least}
use Rattle.x_program.specs.Table.{diadic_of}

-- o is none of 1 to n: what the last arm of a `match` on numbers knows
abbrev pub NoneOf : ℕ → ℕ → Type 0
NoneOf zero o = Unit {0}
NoneOf (suc n) o = NoneOf n o × (o ≡ suc n → ⊥)

pub last_operator : (o : ℕ) → NoneOf 13 o → diadic_of o ≡ at_least
last_operator o h =
    rw (
      ne_eqb o 1 h.0.0.0.0.0.0.0.0.0.0.0.0.1,
      ne_eqb o 2 h.0.0.0.0.0.0.0.0.0.0.0.1,
      ne_eqb o 3 h.0.0.0.0.0.0.0.0.0.0.1,
      ne_eqb o 4 h.0.0.0.0.0.0.0.0.0.1,
      ne_eqb o 5 h.0.0.0.0.0.0.0.0.1,
      ne_eqb o 6 h.0.0.0.0.0.0.0.1,
      ne_eqb o 7 h.0.0.0.0.0.0.1,
      ne_eqb o 8 h.0.0.0.0.0.1,
      ne_eqb o 9 h.0.0.0.0.1,
      ne_eqb o 10 h.0.0.0.1,
      ne_eqb o 11 h.0.0.1,
      ne_eqb o 12 h.0.1,
      ne_eqb o 13 h.1,
    )
