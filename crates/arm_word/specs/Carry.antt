-- The sum with carry of Armv6-M's manual, and the last bit that a shift moves out: what the flags are made of. Definitions; rests on Word.
use Rattle.std.specs.Prelude.{ℕ, ◌+◌, ◌-◌, ◌%◌, Bool, false, not, ℤ, pos, negsuc, ◌+ℤ◌, ◌==◌, int_le, nat_le, nat_lt}
use Rattle.arm_word.specs.Choice.{pick}
use Rattle.arm_word.specs.Word.{sign, shift_left, shift_right}
use Rattle.arm_word.specs.declared.Sum.{Sum}

-- request 2026-02: "N and V differ"
abbrev pub differ : Bool → Bool → Bool
differ a b = pick a (not b) b

-- a bit as a number
abbrev pub bit : Bool → ℕ
bit b = pick b 1 0

-- a word read signed, as a number of two's complement: the manual's SInt
unfoldable pub signed : ℕ → ℤ
signed a = pick (nat_lt a 2147483648) (pos a) (negsuc (4294967295 - a))

abbrev pub same_integer : ℤ → ℤ → Bool
same_integer a b = pick (int_le a b) (int_le b a) false

-- ── AddWithCarry(x, y, carry_in) ──

-- the sum of the words read unsigned, and its low 32 bits
abbrev pub unsigned_sum : ℕ → ℕ → Bool → ℕ
unsigned_sum x y c = x + y + bit c

abbrev pub sum_word : ℕ → ℕ → Bool → ℕ
sum_word x y c = unsigned_sum x y c % 4294967296

-- the carry out: the word, read unsigned, is not that sum
unfoldable pub carry_out : ℕ → ℕ → Bool → Bool
carry_out x y c = not (sum_word x y c == unsigned_sum x y c)

-- the overflow: the word, read signed, is not the sum of the words read signed
unfoldable pub overflow : ℕ → ℕ → Bool → Bool
overflow x y c = not (same_integer (signed (sum_word x y c)) (signed x +ℤ signed y +ℤ pos (bit c)))

abbrev pub with_carry : ℕ → ℕ → Bool → Sum
with_carry x y c = record { word = sum_word x y c; carry = carry_out x y c; overflow = overflow x y c }

-- ── the last bit out of a shift by n places, n not 0: the end bit of the word shifted by one place less ──

unfoldable pub last_left : ℕ → ℕ → Bool
last_left x n = nat_le sign (shift_left x (n - 1))

-- of a signed shift too, which is by 32 at most: the bit is the word's own
unfoldable pub last_right : ℕ → ℕ → Bool
last_right x n = shift_right x (n - 1) % 2 == 1
