-- The syntax table's rows. Definitions.
use Rattle.std.specs.Prelude.{ℕ, ◌+◌, ◌-◌, List, [], ◌∷◌, ◌++◌, length}
use Rattle.x_program.specs.Layout as layout
use Rattle.x_program.specs.Tree.{Monadic, negate, invert, Diadic, plus, minus, times, bitwise_and, bitwise_or, bitwise_xor, right, left, equal, unequal, less, at_most, greater, at_least, Declaration}
use Rattle.x_program.specs.Tree.{var, array, words_of, Program}
use Rattle.x_program.specs.Core.{Expression, constant, variable, element, monadic, diadic, Process, skip, stop, assign, assign_element, sequence, conditional, loop, core_process}

-- The syntax table: "Monadic: 1 `-`, 2 not"
abbrev pub monadic_number : Monadic → ℕ
monadic_number negate = 1
monadic_number invert = 2

-- "Diadic from 1: + - * and or xor >> << = <> < <= > >="
abbrev pub diadic_number : Diadic → ℕ
diadic_number plus = 1
diadic_number minus = 2
diadic_number times = 3
diadic_number bitwise_and = 4
diadic_number bitwise_or = 5
diadic_number bitwise_xor = 6
diadic_number right = 7
diadic_number left = 8
diadic_number equal = 9
diadic_number unequal = 10
diadic_number less = 11
diadic_number at_most = 12
diadic_number greater = 13
diadic_number at_least = 14

-- "Rows of four words (kind, a, b, c), unused 0"
abbrev pub row : ℕ → ℕ → ℕ → ℕ → List ℕ
row kind a b c = kind ∷ a ∷ b ∷ c ∷ []

-- how many rows an expression has
unfoldable pub count : Expression → ℕ
count (constant w) = 1
count (variable v) = 1
count (element a e) = count e + 1
count (monadic o e) = count e + 1
count (diadic o e f) = count e + count f + 1

-- the rows of an expression, the first with number n, "in the order in which they complete": a part's own row is its last
unfoldable pub rows : Expression → ℕ → List ℕ
rows (constant w) n = row layout.number w 0 0
rows (variable v) n = row layout.variable v.row 0 0
rows (element a e) n = rows e n ++ row layout.element a.row (n + count e - 1) 0
rows (monadic o e) n = rows e n ++ row layout.monadic (monadic_number o) (n + count e - 1) 0
rows (diadic o e f) n = rows e n ++ (rows f (n + count e) ++ row layout.diadic (diadic_number o) (n + count e - 1) (n + count e + count f - 1))

unfoldable pub count_process : Process → ℕ
count_process skip = 1
count_process stop = 1
count_process (assign v e) = count e + 1
count_process (assign_element a s e) = count s + count e + 1
count_process (sequence p q) = count_process p + count_process q + 1
count_process (conditional e p q) = count e + count_process p + count_process q + 1
count_process (loop e p) = count e + count_process p + 1

unfoldable pub rows_process : Process → ℕ → List ℕ
rows_process skip n = row layout.skip 0 0 0
rows_process stop n = row layout.stop 0 0 0
rows_process (assign v e) n = rows e n ++ row layout.assign v.row (n + count e - 1) 0
rows_process (assign_element a s e) n = rows s n ++ (rows e (n + count s) ++ row layout.assign_element a.row (n + count s - 1) (n + count s + count e - 1))
rows_process (sequence p q) n =
    rows_process p n ++ (rows_process q (n + count_process p) ++ row layout.sequence (n + count_process p - 1) (n + count_process p + count_process q - 1) 0)
rows_process (conditional e p q) n =
    rows e n
    ++ (rows_process p (n + count e)
    ++ (rows_process q (n + count e + count_process p)
    ++ row layout.if (n + count e - 1) (n + count e + count_process p - 1) (n + count e + count_process p + count_process q - 1)))
rows_process (loop e p) n = rows e n ++ (rows_process p (n + count e) ++ row layout.while (n + count e - 1) (n + count e + count_process p - 1) 0)

-- "1 var (word offset, 1); 2 array (offset, length); offsets in order of declaration": the rows of declarations, the first of which has offset k
abbrev pub row_of : Declaration → ℕ → List ℕ
row_of var k = row layout.var k 1 0
row_of (array n) k = row layout.array k n 0

unfoldable pub declared_rows : List Declaration → ℕ → List ℕ
declared_rows [] k = []
declared_rows (d ∷ ds) k = row_of d k ++ declared_rows ds (k + words_of d)

-- the whole table: "the last row is the program"
unfoldable pub table_of : Program → List ℕ
table_of p = declared_rows p.declarations 0 ++ rows_process (core_process p.body) (length p.declarations)

unfoldable pub row_count : Program → ℕ
row_count p = length p.declarations + count_process (core_process p.body)
