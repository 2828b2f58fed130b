-- The halfwords that lines show, read from their digits. Definitions; rests on the digits of text.
-- Assumes nothing.
use Rattle.std.specs.Prelude.{Bool, false, List, [], ◌∷◌, ◌++◌, ℕ, ltb, length, take, drop}
use Rattle.arm_word.specs.Choice.{pick}
use Rattle.text_lines.specs.Back.{number}

-- a line's halfwords: two, where the first is F000 or more and something follows it
abbrev pub first_in : List ℕ → ℕ
first_in l = number 16 0 (take 4 (drop 5 l))

abbrev pub two_in : List ℕ → Bool
two_in l = pick (ltb (first_in l) 0xF000) false (ltb 10 (length l))

abbrev pub halfwords_in : List ℕ → List ℕ
halfwords_in l = first_in l ∷ pick (two_in l) (number 16 0 (take 4 (drop 10 l)) ∷ []) []

unfoldable pub read_back : List (List ℕ) → List ℕ
read_back [] = []
read_back (l ∷ ls) = halfwords_in l ++ read_back ls
