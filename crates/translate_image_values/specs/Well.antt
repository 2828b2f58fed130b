-- What the walk over a syntax table asks of it: each row names only rows before it, of the fitting sort. Definitions.
use Rattle.std.specs.Prelude.{◌≡◌, List, ℕ, ◌+◌, ◌*◌, ◌≤◌, ◌<◌, length, eqb}
use Rattle.arm_word.specs.Choice.{pick}
use Rattle.x_program.specs.Layout.{row_words}
use Rattle.x_program.specs.Layout as layout
use Rattle.x_program.specs.Table.{word}
use Rattle.x_program.specs.Table as table
use Rattle.x_program.specs.FittingRows as fitting
use Rattle.x_program.specs.declared.table.Row.{Row}

-- the four words of row r
abbrev pub row_in : List ℕ → ℕ → Row
row_in = table.row_in

-- row d stands before row r, and its offset is one in data: "data above 8,192 words" is refused
pub record Declared (t : List ℕ) (r d : ℕ) : Type 0 where
  pub earlier : d < r
  pub offset : word t d 1 ≤ 8192

-- row s stands before row r, and its kind is from `low` to `high`
abbrev pub Earlier : ℕ → ℕ → List ℕ → ℕ → ℕ → Type 0
Earlier = fitting.Earlier

-- "3 number [to] 7 diadic" are the expressions, "8 skip [to] 14 while" the processes
abbrev pub Expression : List ℕ → ℕ → ℕ → Type 0
Expression = Earlier layout.number layout.diadic

abbrev pub Process : List ℕ → ℕ → ℕ → Type 0
Process = Earlier layout.skip layout.while

-- The syntax table: "4 variable (its row); 5 element (array row, subscript row); 6 monadic (operator, row); 7 diadic (operator, left, right); 10 assign (var row, value); 11 assign element
-- (array row, subscript, value); 12 two in sequence; 13 if (condition, then, else); 14 while (condition, body)"
unfoldable pub Names : List ℕ → ℕ → Type 0
Names t r =
    pick (eqb (word t r 0) layout.variable) (Declared t r (word t r 1))
    (pick (eqb (word t r 0) layout.element) (Declared t r (word t r 1) × Expression t r (word t r 2))
    (pick (eqb (word t r 0) layout.monadic) (Expression t r (word t r 2))
    (pick (eqb (word t r 0) layout.diadic) (Expression t r (word t r 2) × Expression t r (word t r 3))
    (pick (eqb (word t r 0) layout.assign) (Declared t r (word t r 1) × Expression t r (word t r 2))
    (pick (eqb (word t r 0) layout.assign_element) (Declared t r (word t r 1) × Expression t r (word t r 2) × Expression t r (word t r 3))
    (pick (eqb (word t r 0) layout.sequence) (Process t r (word t r 1) × Process t r (word t r 2))
    (pick (eqb (word t r 0) layout.if) (Expression t r (word t r 1) × Process t r (word t r 2) × Process t r (word t r 3))
    (pick (eqb (word t r 0) layout.while) (Expression t r (word t r 1) × Process t r (word t r 2))
    (Unit {0})))))))))

-- row r is in the table, its kind is from `low` to `high`, and it and all rows before it name what they should
pub record Well (low high : ℕ) (t : List ℕ) (r : ℕ) : Type 0 where
  pub inside : row_words * r + row_words ≤ length t
  pub from : low ≤ word t r 0
  pub to : word t r 0 ≤ high
  pub names : (s : ℕ) → s ≤ r → Names t s

-- a row that the walk takes for an expression, for a process
abbrev pub WellExpression : List ℕ → ℕ → Type 0
WellExpression = Well layout.number layout.diadic

abbrev pub WellProcess : List ℕ → ℕ → Type 0
WellProcess = Well layout.skip layout.while

-- one that is no sequence
abbrev pub WellSingle : List ℕ → ℕ → Type 0
WellSingle t r = WellProcess t r × (word t r 0 ≡ layout.sequence → ⊥)
