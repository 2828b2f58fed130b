-- How long the lines of words are, and that what stands behind a name fits in a line. Laws; assumes nothing.
use Rattle.std.specs.Prelude.{◌≡◌, List, ℕ, zero, suc, ◌+◌, ◌*◌, ◌≤◌, length, get_or}
use Rattle.std.proofs.Common.{arith, length-append, take_all}
use Rattle.arm_word.specs.Ascii.{ascii}
use Rattle.text_lines.specs.Text.{fitted, entry}
use Rattle.text_lines.specs.LineLaws.{length_digits}
use Rattle.text_values.specs.Values.{variable_line, subscripted, element_line, element_lines}

pub variable_fits : (w : ℕ) → fitted (entry (ascii "=") w) ≡ entry (ascii "=") w
variable_fits w = take_all 128 (entry (ascii "=") w) (simp length-append (omega (arith, length_digits 9 w)))

pub element_fits : (i w : ℕ) → fitted (subscripted i w) ≡ subscripted i w
element_fits i w = take_all 128 (subscripted i w) (simp length-append (omega (arith, length_digits 9 i, length_digits 9 w)))

-- a name of 32 bytes, a subscript and a word of ten digits each
abbrev pub line_bytes : ℕ
line_bytes = 56

pub length_variable : (name : List ℕ) (w : ℕ) → length name ≤ 32 → length (variable_line name w) ≤ line_bytes
length_variable name w h = simp length-append (omega (arith, length_digits 9 w))

length_element : (name : List ℕ) (i w : ℕ) → length name ≤ 32 → length (element_line name i w) ≤ line_bytes
length_element name i w h = simp length-append (omega (arith, length_digits 9 i, length_digits 9 w))

pub length_elements : (words : List ℕ) (first : ℕ) (name : List ℕ) (n : ℕ) → length name ≤ 32 → length (element_lines words first name n) ≤ line_bytes * n
unfolding element_lines
length_elements words first name zero h = omega arith
length_elements words first name (suc n) h =
    omega (
      arith,
      length-append (element_lines words first name n) (element_line name n (get_or words (first + n) 0)),
      length_elements words first name n h,
      length_element name n (get_or words (first + n) 0) h,
    )
