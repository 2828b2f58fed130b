-- The words of a var or an array by its name, a line each: what docs/WALK.md shows of data. Definitions; assumes nothing.
use Rattle.std.specs.Prelude.{ℕ, zero, suc, ◌+◌, List, [], ◌++◌, get_or}
use Rattle.arm_word.specs.Ascii.{ascii}
use Rattle.text_lines.specs.Text.{decimal, entry}

-- "a var by its name"
abbrev pub variable_line : List ℕ → ℕ → List ℕ
variable_line name w = name ++ entry (ascii "=") w

-- "each element of an array by name and subscript"
abbrev pub subscripted : ℕ → ℕ → List ℕ
subscripted i w = ascii "[" ++ (decimal i ++ entry (ascii "]=") w)

abbrev pub element_line : List ℕ → ℕ → ℕ → List ℕ
element_line name i w = name ++ subscripted i w

-- the first n elements of an array whose words begin at `first`
unfoldable pub element_lines : List ℕ → ℕ → List ℕ → ℕ → List ℕ
element_lines words first name zero = []
element_lines words first name (suc n) = element_lines words first name n ++ element_line name n (get_or words (first + n) 0)
