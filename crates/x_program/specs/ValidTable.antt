-- Which tables can be run: request 2026-01's number 36, a clause a reason. Definitions; rests on the table's layout.
-- 36 is a table, and only such a table, with one of these faults: no depth is tested, no row has to be used, and a row may be used twice.
use Rattle.std.specs.Prelude.{ℕ, zero, suc, ◌+◌, ◌-◌, ◌/◌, ◌%◌, Bool, true, false, ◌&&◌, List, length, eqb, ltb, leb}
use Rattle.arm_word.specs.Choice.{pick}
use Rattle.arm_word.specs.Ranges.{from_to}
use Rattle.x_program.specs.Layout.{row_words}
use Rattle.x_program.specs.Layout as layout
use Rattle.x_program.specs.Table.{word}
use Rattle.x_program.specs.declared.Field.{Field}
use Rattle.x_program.specs.declared.Field.TheVariants.{Unknown, Variable, Array, Value, Process, Monadic, Diadic, Offset, One, Length, Word, Unused}
use Rattle.x_program.specs.declared.Shape.{Shape}

-- ── document 01's row rules: what the words a, b and c of a row are, by its kind ──

abbrev pub shaped : Field → Field → Field → Shape
shaped a b c = record { a = a; b = b; c = c }

-- The syntax table: "8 skip; 9 stop; 10 assign (var row, value); 11 assign element (array row, subscript, value); 12 two in sequence ... 13 if (condition, then, else); 14 while (condition,
-- body)"; "unused 0"
unfoldable pub process_shape : ℕ → Shape
process_shape kind =
    pick (eqb kind layout.skip) (shaped Unused Unused Unused)
    (pick (eqb kind layout.stop) (shaped Unused Unused Unused)
    (pick (eqb kind layout.assign) (shaped Variable Value Unused)
    (pick (eqb kind layout.assign_element) (shaped Array Value Value)
    (pick (eqb kind layout.sequence) (shaped Process Process Unused)
    (pick (eqb kind layout.if) (shaped Value Process Process)
    (pick (eqb kind layout.while) (shaped Value Process Unused)
    (shaped Unknown Unknown Unknown)))))))

-- "1 var (word offset, 1); 2 array (offset, length) ... 3 number (word); 4 variable (its row); 5 element (array row, subscript row); 6 monadic (operator, row); 7 diadic (operator, left,
-- right)", and processes
unfoldable pub shape : ℕ → Shape
shape kind =
    pick (eqb kind layout.var) (shaped Offset One Unused)
    (pick (eqb kind layout.array) (shaped Offset Length Unused)
    (pick (eqb kind layout.number) (shaped Word Unused Unused)
    (pick (eqb kind layout.variable) (shaped Variable Unused Unused)
    (pick (eqb kind layout.element) (shaped Array Value Unused)
    (pick (eqb kind layout.monadic) (shaped Monadic Value Unused)
    (pick (eqb kind layout.diadic) (shaped Diadic Value Value)
    (process_shape kind)))))))

-- ── data ──

-- the words that row r declares
abbrev pub declared_in : List ℕ → ℕ → ℕ
declared_in t r = pick (from_to layout.var layout.array (word t r 0)) (word t r 2) 0

-- and that the first n rows do, used or not
unfoldable pub data_before : List ℕ → ℕ → ℕ
data_before t zero = 0
data_before t (suc n) = data_before t n + declared_in t n

-- ── the reasons ──

-- "an earlier row of the fitting kind"
abbrev pub earlier : List ℕ → ℕ → ℕ → ℕ → ℕ → Bool
earlier t r s low high = ltb s r && from_to low high (word t s 0)

-- whether word w of row r is what it should be, `before` words being declared before the row
abbrev pub fits : List ℕ → ℕ → ℕ → Field → ℕ → Bool
-- "an unknown kind"
fits t r before Unknown w = false
-- "a reference that isn't to an earlier row of the fitting kind"
fits t r before Variable w = earlier t r w layout.var layout.var
fits t r before Array w = earlier t r w layout.array layout.array
fits t r before Value w = earlier t r w layout.number layout.diadic
fits t r before Process w = earlier t r w layout.skip layout.while
-- "an operator, offset, length or unused word against document 01's row rules": "Monadic: 1 ..., 2 ...", "Diadic from 1: + - * and or xor >> << = <> < <= > >="
fits t r before Monadic w = from_to 1 2 w
fits t r before Diadic w = from_to 1 14 w
-- "offsets in order of declaration"
fits t r before Offset w = eqb w before
-- a var has one word; "array length, read unsigned, not 1 to 8,192"
fits t r before One w = eqb w 1
fits t r before Length w = from_to 1 8192 w
fits t r before Word w = true
fits t r before Unused w = eqb w 0

abbrev pub row_fits : List ℕ → ℕ → Bool
row_fits t r =
    let s = shape (word t r 0) in
    let before = data_before t r in
    fits t r before s.a (word t r 1) && (fits t r before s.b (word t r 2) && fits t r before s.c (word t r 3))

-- the first n rows
unfoldable pub rows_fit : List ℕ → ℕ → Bool
rows_fit t zero = true
rows_fit t (suc n) = rows_fit t n && row_fits t n

-- how many whole rows a table has
abbrev pub rows_in : List ℕ → ℕ
rows_in t = length t / row_words

-- and words of data
abbrev pub data_in : List ℕ → ℕ
data_in t = data_before t (rows_in t)

-- what is not refused by 36
unfoldable pub valid : List ℕ → Bool
valid t =
    -- "a part row"
    eqb (length t % row_words) 0
    -- "more than 1,024 rows"
    && (leb (rows_in t) 1024
    -- row by row, as above
    && (rows_fit t (rows_in t)
    -- "data above 8,192 words"
    && (leb (data_in t) 8192
    -- "a last row that is missing or no process"
    && (ltb 0 (rows_in t) && from_to layout.skip layout.while (word t (rows_in t - 1) 0)))))
