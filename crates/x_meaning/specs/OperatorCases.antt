-- The operators on the edges of their words, as one statement over a list.
use Rattle.std.specs.Prelude.{◌≡◌, refl, [], ◌∷◌, map, ℕ}
use Rattle.arm_word.specs.Word.{shift_left, shift_right, signed_less}
use Rattle.x_program.specs.Tree.{Diadic, plus, minus, times, right, left, at_most, greater, at_least}
use Rattle.x_meaning.specs.Operators.{work_diadic}

pub record Case : Type 0 where
  pub operator : Diadic
  pub left_word : ℕ
  pub right_word : ℕ

abbrev pub case : Diadic → ℕ → ℕ → Case
case o x y = record { operator = o; left_word = x; right_word = y }

abbrev pub worked_out : Case → ℕ
worked_out c = work_diadic c.operator c.left_word c.right_word

-- counts of 31, 32 and 256, sums that wrap, orders across the sign
pub edges : map worked_out
    (case left 1 31 ∷ case left 1 32 ∷ case right 0x80000000 31 ∷ case right 5 256 ∷ case plus 0xFFFFFFFF 1 ∷ case minus 0 1 ∷ case times 0x10000 0x10000
    ∷ case at_most 1 0x80000000 ∷ case greater 1 0x80000000 ∷ case at_least 0x80000000 1 ∷ [])
    ≡ 0x80000000 ∷ 0 ∷ 1 ∷ 0 ∷ 0 ∷ 0xFFFFFFFF ∷ 0 ∷ 0 ∷ 0xFFFFFFFF ∷ 0 ∷ []
unfolding shift_left shift_right signed_less
edges = refl
