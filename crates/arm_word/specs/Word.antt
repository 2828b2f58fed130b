-- Words of 32 bits, as numbers below 2 ^ 32. Definitions.
use Rattle.std.specs.Prelude.{ℕ, ◌+◌, ◌-◌, ◌*◌, ◌/◌, ◌%◌, ◌^◌, Bool, nat_lt}
use Rattle.arm_word.specs.Choice.{pick}

-- What a program means: "Words have 32 bits"; how many words there are
abbrev pub modulus : ℕ
modulus = 4294967296

-- words from here on are negative when read as signed numbers
abbrev pub sign : ℕ
sign = 2147483648

-- What a program means: "`+ - *` wrap"; The machine: "All address sums wrap at 32 bits"
abbrev pub add : ℕ → ℕ → ℕ
add a b = (a + b) % 4294967296

abbrev pub sub : ℕ → ℕ → ℕ
sub a b = (a + (4294967296 - b)) % 4294967296

-- the product's low word
abbrev pub mul : ℕ → ℕ → ℕ
mul a b = (a * b) % 4294967296

-- every bit the other way
abbrev pub complement : ℕ → ℕ
complement a = 4294967295 - a

-- What a program means: "A shift count, read unsigned, above 31 gives 0; shifts bring in zeros"
unfoldable pub shift_left : ℕ → ℕ → ℕ
shift_left a n = pick (nat_lt n 32) ((a * 2 ^ n) % 4294967296) 0

unfoldable pub shift_right : ℕ → ℕ → ℕ
shift_right a n = pick (nat_lt n 32) (a / 2 ^ n) 0

-- a shift right that brings in copies of the sign: of a negative word the complement is shifted, and complemented again
unfoldable pub shift_right_signed : ℕ → ℕ → ℕ
shift_right_signed a n = pick (nat_lt a 2147483648) (shift_right a n) (complement (shift_right (complement a) n))

-- What a program means: "`<` and its kin compare as signed numbers"; 2 ^ 31 added to both turns that order into the unsigned one
unfoldable pub signed_less : ℕ → ℕ → Bool
signed_less a b = nat_lt ((a + 2147483648) % 4294967296) ((b + 2147483648) % 4294967296)

-- What a program means: "true is -1, false 0"
abbrev pub truth : Bool → ℕ
truth b = pick b 4294967295 0
