-- Lines of text, in ASCII: what a line holds, numbers as digits, and the seven lines of the report.
-- Definitions; assumes nothing.
use Rattle.std.specs.Prelude.{ℕ, zero, suc, ◌+◌, ◌/◌, ◌%◌, List, [], ◌∷◌, ◌++◌, take, ltb}
use Rattle.arm_word.specs.Choice.{pick}
use Rattle.arm_word.specs.Ascii.{ascii}
use Rattle.text_lines.specs.declared.Line.{Line}

-- what a line holds
abbrev pub written : Line → List ℕ
written l = take l.length l.bytes

-- what fits in a line
abbrev pub fitted : List ℕ → List ℕ
fitted xs = take 128 xs

-- a digit of a base up to 16: `0` to `9`, then `A` to `F`
abbrev pub digit : ℕ → ℕ
digit d = pick (ltb d 10) (48 + d) (55 + d)

-- four hexadecimal digits, of the low halfword
abbrev pub hexadecimal : ℕ → List ℕ
hexadecimal n = digit (n / 4096 % 16) ∷ digit (n / 256 % 16) ∷ digit (n / 16 % 16) ∷ digit (n % 16) ∷ []

-- a number in base 10, no zero in front, by at most so many divisions
unfoldable pub digits : ℕ → ℕ → List ℕ
digits zero n = digit (n % 10) ∷ []
digits (suc k) n = pick (ltb n 10) (digit n ∷ []) (digits k (n / 10) ++ (digit (n % 10) ∷ []))

-- a word in base 10: 4,294,967,295 has ten digits
abbrev pub decimal : ℕ → List ℕ
decimal n = digits 9 n

-- a number of 64 bits in base 10: 18,446,744,073,709,551,615 has twenty digits
abbrev pub long_decimal : ℕ → List ℕ
long_decimal n = digits 19 n

-- a name with its `=`, the number, a line feed
abbrev pub entry : List ℕ → ℕ → List ℕ
entry name n = name ++ (decimal n ++ (10 ∷ []))

-- The report program: "writes lines in this order"
unfoldable pub summary : ℕ → ℕ → ℕ → ℕ → ℕ → ℕ → ℕ → List ℕ
summary status place tokens rows words depth code =
    entry (ascii "status=") status
    ++ (entry (ascii "place=") place
    ++ (entry (ascii "tokens=") tokens
    ++ (entry (ascii "rows=") rows
    ++ (entry (ascii "data=") words
    ++ (entry (ascii "depth=") depth
    ++ entry (ascii "code=") code)))))
