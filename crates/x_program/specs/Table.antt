-- The tree that a row of a syntax table stands for, made from those of earlier rows. Definitions.
use Rattle.std.specs.Prelude.{List, ℕ, zero, suc, ◌+◌, ◌*◌, get_or, eqb}
use Rattle.arm_word.specs.Choice.{pick}
use Rattle.x_program.specs.Layout.{row_words}
use Rattle.x_program.specs.Layout as layout
use Rattle.x_program.specs.Tree.{Monadic, negate, invert, Diadic, plus, minus, times, bitwise_and, bitwise_or, bitwise_xor, right, left, equal, unequal, less, at_most, greater, at_least, Variable, Array}
use Rattle.x_program.specs.Core.{Expression, constant, variable, element, monadic, diadic, Process, skip, stop, assign, assign_element, sequence, conditional, loop}
use Rattle.x_program.specs.Rows.{monadic_number, diadic_number}
use Rattle.x_program.specs.declared.table.Row.{Row}

-- ── a value for each row, made from those of the rows before it ──
module _ {A : Type 0} (d : A) (make : ℕ → (ℕ → A) → A) where
  -- of the rows below n
  unfoldable pub below : ℕ → ℕ → A
  below zero c = d
  below (suc n) c = pick (eqb c n) (make n (below n)) (below n c)

  unfoldable pub at_row : ℕ → A
  at_row r = make r (below r)

-- ── the words of a row ──

-- word f of row r
abbrev pub word : List ℕ → ℕ → ℕ → ℕ
word t r f = get_or t (row_words * r + f) 0

-- its four words
abbrev pub row_in : List ℕ → ℕ → Row
row_in t r = record { kind = word t r 0; a = word t r 1; b = word t r 2; c = word t r 3 }

-- "Monadic: 1 `-`, 2 not"
abbrev pub monadic_of : ℕ → Monadic
monadic_of o = pick (eqb o (monadic_number negate)) negate invert

-- "Diadic from 1: + - * and or xor >> << = <> < <= > >="
abbrev pub diadic_of : ℕ → Diadic
diadic_of o =
    pick (eqb o (diadic_number plus)) plus
    (pick (eqb o (diadic_number minus)) minus
    (pick (eqb o (diadic_number times)) times
    (pick (eqb o (diadic_number bitwise_and)) bitwise_and
    (pick (eqb o (diadic_number bitwise_or)) bitwise_or
    (pick (eqb o (diadic_number bitwise_xor)) bitwise_xor
    (pick (eqb o (diadic_number right)) right
    (pick (eqb o (diadic_number left)) left
    (pick (eqb o (diadic_number equal)) equal
    (pick (eqb o (diadic_number unequal)) unequal
    (pick (eqb o (diadic_number less)) less
    (pick (eqb o (diadic_number at_most)) at_most
    (pick (eqb o (diadic_number greater)) greater at_least))))))))))))

-- the declaration in row d
abbrev pub variable_in : List ℕ → ℕ → Variable
variable_in t d = record { row = d; offset = word t d 1 }

abbrev pub array_in : List ℕ → ℕ → Array
array_in t d = record { row = d; offset = word t d 1; length = word t d 2 }

-- ── the trees ──

abbrev pub expression_of : List ℕ → ℕ → (ℕ → Expression) → Expression
expression_of t r at =
    pick (eqb (word t r 0) layout.number) (constant (word t r 1))
    (pick (eqb (word t r 0) layout.variable) (variable (variable_in t (word t r 1)))
    (pick (eqb (word t r 0) layout.element) (element (array_in t (word t r 1)) (at (word t r 2)))
    (pick (eqb (word t r 0) layout.monadic) (monadic (monadic_of (word t r 1)) (at (word t r 2)))
    (diadic (diadic_of (word t r 1)) (at (word t r 2)) (at (word t r 3))))))

unfoldable pub expression_at : List ℕ → ℕ → Expression
expression_at t = at_row (constant 0) (expression_of t)

abbrev pub process_of : List ℕ → ℕ → (ℕ → Process) → Process
process_of t r at =
    pick (eqb (word t r 0) layout.skip) skip
    (pick (eqb (word t r 0) layout.stop) stop
    (pick (eqb (word t r 0) layout.assign) (assign (variable_in t (word t r 1)) (expression_at t (word t r 2)))
    (pick (eqb (word t r 0) layout.assign_element) (assign_element (array_in t (word t r 1)) (expression_at t (word t r 2)) (expression_at t (word t r 3)))
    (pick (eqb (word t r 0) layout.sequence) (sequence (at (word t r 1)) (at (word t r 2)))
    (pick (eqb (word t r 0) layout.if) (conditional (expression_at t (word t r 1)) (at (word t r 2)) (at (word t r 3)))
    (loop (expression_at t (word t r 1)) (at (word t r 2))))))))

unfoldable pub process_at : List ℕ → ℕ → Process
process_at t = at_row skip (process_of t)
