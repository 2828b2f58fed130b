-- Bytes by classes, and runs of them. Definitions.
-- Rests on the choice by a test of crate `arm_word`.
use Rattle.std.specs.Prelude.{Bool, true, false, List, [], ◌∷◌, ℕ, suc, ◌+◌, ◌-◌, ◌*◌, eqb, leb, ltb}
use Rattle.arm_word.specs.Choice.{pick}
use Rattle.x_spelling.specs.declared.Class.{Class}
use Rattle.x_spelling.specs.declared.Class.TheVariants.{Name, Comment, Digit}

abbrev pub within : ℕ → ℕ → ℕ → Bool
within low high b = pick (leb low b) (leb b high) false

-- a byte of a list
unfoldable pub one_of : List ℕ → ℕ → Bool
one_of [] b = false
one_of (x ∷ xs) b = pick (eqb x b) true (one_of xs b)

abbrev pub letter : ℕ → Bool
letter b = pick (within 97 122 b) true (within 65 90 b)

-- the value of a digit, "hex digits of either case"; 16 if the byte is none
unfoldable pub digit_value : ℕ → ℕ
digit_value b = pick (within 48 57 b) (b - 48) (pick (within 97 102 b) (b - 87) (pick (within 65 70 b) (b - 55) 16))

-- a digit of a base, 10 or 16
abbrev pub digit : ℕ → ℕ → Bool
digit base b = ltb (digit_value b) base

-- "names (a letter, then letters, digits, `_`)"
unfoldable pub name_character : ℕ → Bool
name_character b = pick (letter b) true (pick (digit 10 b) true (eqb b 95))

-- "Space, tab, CR and LF separate"
abbrev pub separator : ℕ → Bool
separator b = one_of (32 ∷ 9 ∷ 13 ∷ 10 ∷ []) b

-- "X characters: letters, digits, `!"#&'()*+,-◌./:;<=>?[]{}`"
unfoldable pub character : ℕ → Bool
character b =
    pick (letter b) true
    (pick (digit 10 b) true
    (one_of (33 ∷ 34 ∷ 35 ∷ 38 ∷ 39 ∷ 40 ∷ 41 ∷ 42 ∷ 43 ∷ 44 ∷ 45 ∷ 95 ∷ 46 ∷ 47 ∷ 58 ∷ 59 ∷ 60 ∷ 61 ∷ 62 ∷ 63 ∷ 91 ∷ 93 ∷ 123 ∷ 125 ∷ []) b))

-- "one X character other than `*`, `'`, `"`"
unfoldable pub literal_character : ℕ → Bool
literal_character b = pick (one_of (42 ∷ 39 ∷ 34 ∷ []) b) false (character b)

-- the classes that runs of bytes are of; "A comment runs from `|` to the next `|`, any other bytes inside"
abbrev pub in_class : Class → ℕ → Bool
in_class Name b = name_character b
in_class Comment b = pick (eqb b 124) false true
in_class (Digit base) b = digit base b

-- how many bytes of a class stand at the front
unfoldable pub span : Class → List ℕ → ℕ
span c [] = 0
span c (b ∷ bs) = pick (in_class c b) (suc (span c bs)) 0

-- the number that the digits at the front make in a base, after those that make a
unfoldable pub numeral : ℕ → List ℕ → ℕ → ℕ
numeral base [] a = a
numeral base (b ∷ bs) a = pick (digit base b) (numeral base bs (a * base + digit_value b)) a
