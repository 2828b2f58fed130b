-- What stands at the front of a byte string. Definitions, in the order of "The X that we take", "Tokens, longest first".
-- Rests on Characters, Words and Kinds.
use Rattle.std.specs.Prelude.{List, ℕ, ◌+◌, ◌*◌, eqb, leb, get_or, take, drop, Option, None, Some}
use Rattle.arm_word.specs.Choice.{pick}
use Rattle.x_spelling.specs.Kinds as kinds
use Rattle.x_spelling.specs.Characters.{digit_value, letter, digit, separator, literal_character, span, numeral}
use Rattle.x_spelling.specs.Words.{word}
use Rattle.x_tokens.specs.declared.refusal.Reason.TheVariants.{BrokenToken, LargeNumber, LongName}
use Rattle.x_spelling.specs.declared.Class.TheVariants.{Name, Comment, Digit}
use Rattle.x_spelling.specs.declared.Word.{Word}
use Rattle.x_tokens.specs.declared.Lexeme.{Lexeme}
use Rattle.x_tokens.specs.declared.Lexeme.TheVariants.{Separator, Token, Broken}

-- the byte at an index, 0 past the end: no token has a byte 0 but inside a comment
abbrev pub at : List ℕ → ℕ → ℕ
at bs i = get_or bs i 0

-- 0, where a definition here says none with it, as the code's None
abbrev pub unless_zero : ℕ → Option ℕ
unless_zero n = pick (eqb n 0) None (Some n)

-- a word as the token of its n bytes
abbrev pub spelled : ℕ → Word → Lexeme
spelled n w = Token w.kind n w.value

-- "names (a letter, then letters, digits, `_`)"; refusal 4: "name above 32 bytes"
unfoldable pub named : List ℕ → Lexeme
named bs = pick (leb (span Name bs) 32) (spelled (span Name bs) (word (take (span Name bs) bs))) (Broken LongName)

-- "decimals, `#` and hex digits of either case"; refusal 3: "decimal above 2,147,483,647 or hex above FFFFFFFF"; the digits are bs, after `before` bytes
unfoldable pub number : ℕ → ℕ → ℕ → List ℕ → Lexeme
number base limit before bs =
    pick (eqb (span (Digit base) bs) 0) (Broken BrokenToken)
    (pick (leb (numeral base bs 0) limit) (Token kinds.number (before + span (Digit base) bs) (numeral base bs 0)) (Broken LargeNumber))

-- "an escape: `*c` 13, `*n` 10, `*t` 9, `*s` 32, `*'` 39, `*"` 34, `**` 42"; 0 for any other byte
unfoldable pub escape_value : ℕ → ℕ
escape_value b =
    pick (eqb b 99) 13
    (pick (eqb b 110) 10
    (pick (eqb b 116) 9
    (pick (eqb b 115) 32
    (pick (eqb b 39) 39
    (pick (eqb b 34) 34
    (pick (eqb b 42) 42 0))))))

-- a byte literal whose closing quote should stand at n
unfoldable pub closed : List ℕ → ℕ → ℕ → Lexeme
closed bs n value = pick (eqb (at bs n) 39) (Token kinds.number (n + 1) value) (Broken BrokenToken)

-- "`*#` and two hex digits"
unfoldable pub hexadecimal_escape : List ℕ → Lexeme
hexadecimal_escape bs =
    pick (digit 16 (at bs 3)) (pick (digit 16 (at bs 4)) (closed bs 5 (digit_value (at bs 3) * 16 + digit_value (at bs 4))) (Broken BrokenToken)) (Broken BrokenToken)

unfoldable pub escape : List ℕ → Lexeme
escape bs =
    pick (eqb (at bs 2) 35) (hexadecimal_escape bs)
    (pick (eqb (escape_value (at bs 2)) 0) (Broken BrokenToken) (closed bs 3 (escape_value (at bs 2))))

-- "A byte literal is one X character other than `*`, `'`, `"`, or an escape"; the opening quote stands first
unfoldable pub byte_literal : List ℕ → Lexeme
byte_literal bs =
    pick (eqb (at bs 1) 42) (escape bs)
    (pick (literal_character (at bs 1)) (closed bs 2 (at bs 1)) (Broken BrokenToken))

-- "A comment runs from `|` to the next `|`, any other bytes inside"; bs follow the first `|`
unfoldable pub comment : List ℕ → Lexeme
comment bs = pick (eqb (at bs (span Comment bs)) 124) (Token kinds.comment (span Comment bs + 2) 0) (Broken BrokenToken)

-- the kind of `:= <> <= >= << >>`, 0 for any other two bytes
unfoldable pub double : ℕ → ℕ → ℕ
double b c =
    pick (eqb b 58) (pick (eqb c 61) kinds.becomes 0)
    (pick (eqb b 60) (pick (eqb c 62) kinds.unequal (pick (eqb c 61) kinds.at_most (pick (eqb c 60) kinds.shift_left 0)))
    (pick (eqb b 62) (pick (eqb c 61) kinds.at_least (pick (eqb c 62) kinds.shift_right 0)) 0))

-- the kind of `+ - * = < > ( ) [ ] { } ; ,`, 0 for any other byte
unfoldable pub single : ℕ → ℕ
single b =
    pick (eqb b 43) kinds.plus
    (pick (eqb b 45) kinds.minus
    (pick (eqb b 42) kinds.times
    (pick (eqb b 61) kinds.equal
    (pick (eqb b 60) kinds.less
    (pick (eqb b 62) kinds.greater
    (pick (eqb b 40) kinds.open_bracket
    (pick (eqb b 41) kinds.close_bracket
    (pick (eqb b 91) kinds.open_subscript
    (pick (eqb b 93) kinds.close_subscript
    (pick (eqb b 123) kinds.open_brace
    (pick (eqb b 125) kinds.close_brace
    (pick (eqb b 59) kinds.semicolon
    (pick (eqb b 44) kinds.comma 0)))))))))))))

-- "longest first": two bytes before one; refusal 2: "byte that starts none"
unfoldable pub symbol : ℕ → ℕ → Lexeme
symbol b c =
    pick (eqb (double b c) 0)
    (pick (eqb (single b) 0) (Broken BrokenToken) (Token (single b) 1 0))
    (Token (double b c) 2 0)

-- "Tokens, longest first: names, decimals, `#` and hex digits, byte literals, comments" and the symbols
unfoldable pub lexeme : List ℕ → Lexeme
lexeme bs =
    pick (separator (at bs 0)) Separator
    (pick (letter (at bs 0)) (named bs)
    (pick (digit 10 (at bs 0)) (number 10 2147483647 0 bs)
    (pick (eqb (at bs 0) 35) (number 16 4294967295 1 (drop 1 bs))
    (pick (eqb (at bs 0) 39) (byte_literal bs)
    (pick (eqb (at bs 0) 124) (comment (drop 1 bs))
    (symbol (at bs 0) (at bs 1)))))))
