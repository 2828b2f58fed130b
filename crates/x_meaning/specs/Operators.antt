-- The working of the operators on words. Definitions.
use Rattle.std.specs.Prelude.{ℕ, not, eqb}
use Rattle.std.specs.Int.Bits.{bit_and, bit_or, bit_xor}
use Rattle.arm_word.specs.Word.{add, sub, mul, complement, shift_left, shift_right, signed_less, truth}
use Rattle.x_program.specs.Tree.{Monadic, negate, invert, Diadic, plus, minus, times, bitwise_and, bitwise_or, bitwise_xor, right, left, equal, unequal, less, at_most, greater, at_least}

-- Source document 001: "-n = (0 - n)", "bitwise not"
abbrev pub work_monadic : Monadic → ℕ → ℕ
work_monadic negate x = sub 0 x
work_monadic invert x = complement x

-- What a program means: "`+ - *` wrap; `<` and its kin compare as signed numbers, true is -1, false 0. A shift count, read unsigned, above 31 gives 0"
abbrev pub work_diadic : Diadic → ℕ → ℕ → ℕ
work_diadic plus x y = add x y
work_diadic minus x y = sub x y
work_diadic times x y = mul x y
work_diadic bitwise_and x y = bit_and x y
work_diadic bitwise_or x y = bit_or x y
work_diadic bitwise_xor x y = bit_xor x y
work_diadic right x y = shift_right x y
work_diadic left x y = shift_left x y
work_diadic equal x y = truth (eqb x y)
work_diadic unequal x y = truth (not (eqb x y))
work_diadic less x y = truth (signed_less x y)
work_diadic at_most x y = truth (not (signed_less y x))
work_diadic greater x y = truth (signed_less y x)
work_diadic at_least x y = truth (not (signed_less x y))
