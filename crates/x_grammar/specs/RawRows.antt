-- The raw rows of a tree: the syntax table's rows with a name's token in place of the row that declares it. Definitions; rests on the grammar's trees.
-- Rows of four words, in the order in which they complete, the first with number n; the row of a part is its last one.
use Rattle.std.specs.Prelude.{List, [], ◌∷◌, ◌++◌, ℕ, ◌+◌, ◌-◌, eqb}
use Rattle.arm_word.specs.Choice.{pick}
use Rattle.x_spelling.specs.Kinds as kind
use Rattle.x_grammar.specs.Grammar.{Expression, single, monadic, diadic, Chain, last, more, Operand, constant, variable, element, bracketed, Process, skip, stop, assign, assign_element}
use Rattle.x_grammar.specs.Grammar.{empty, braces, conditional, while, after_comment, Processes, only, followed, Specification, var, array, val, commented, Program, program}
use Rattle.x_program.specs.Layout as layout
use Rattle.x_program.specs.Tree.{negate, invert}
use Rattle.x_program.specs.Rows as table
pub use Rattle.x_program.specs.Rows.{row}

-- "`{ }` is skip; brackets and one-process braces make no row": how many rows a part has
unfoldable mutual
  pub count_expression : Expression → ℕ
  count_expression (single a) = count_operand a
  count_expression (monadic o a) = count_operand a + 1
  count_expression (diadic o a c) = count_operand a + count_chain c + 1

  pub count_chain : Chain → ℕ
  count_chain (last a) = count_operand a
  count_chain (more a c) = count_operand a + count_chain c + 1

  pub count_operand : Operand → ℕ
  count_operand (constant v) = 1
  count_operand (variable n) = 1
  count_operand (element n e) = count_expression e + 1
  count_operand (bracketed e) = count_expression e

unfoldable mutual
  pub count_process : Process → ℕ
  count_process skip = 1
  count_process stop = 1
  count_process (assign n e) = count_expression e + 1
  count_process (assign_element n s e) = count_expression s + count_expression e + 1
  count_process empty = 1
  count_process (braces ps) = count_processes ps
  count_process (conditional e p q) = count_expression e + count_process p + count_process q + 1
  count_process (while e p) = count_expression e + count_process p + 1
  count_process (after_comment p) = count_process p

  pub count_processes : Processes → ℕ
  count_processes (only p) = count_process p
  count_processes (followed p ps) = count_process p + count_processes ps + 1

-- "Monadic: 1 `-`, 2 not."
abbrev pub monadic_number : ℕ → ℕ
monadic_number o = pick (eqb o kind.minus) (table.monadic_number negate) (table.monadic_number invert)

-- "Diadic from 1: `+ - * and or xor >> << = <> < <= > >=`": the kinds stand in that order
abbrev pub diadic_number : ℕ → ℕ
diadic_number o = o - kind.operator_base

-- two operands and the row that joins them: a's rows from n, its last m - 1, and c's from m, its last l - 1
abbrev pub joined : ℕ → List ℕ → List ℕ → ℕ → ℕ → List ℕ
joined o xs ys m l = xs ++ ys ++ row layout.diadic (diadic_number o) (m - 1) (l - 1)

-- "3 number (word); 4 variable (its row); 5 element (array row, subscript row); 6 monadic (operator, row); 7 diadic (operator, left, right)"
unfoldable mutual
  pub rows_expression : Expression → ℕ → List ℕ
  rows_expression (single a) n = rows_operand a n
  rows_expression (monadic o a) n = rows_operand a n ++ row layout.monadic (monadic_number o) (n + count_operand a - 1) 0
  rows_expression (diadic o a c) n = joined o (rows_operand a n) (rows_chain c o (n + count_operand a)) (n + count_operand a) (n + count_operand a + count_chain c)

  pub rows_chain : Chain → ℕ → ℕ → List ℕ
  rows_chain (last a) o n = rows_operand a n
  rows_chain (more a c) o n = joined o (rows_operand a n) (rows_chain c o (n + count_operand a)) (n + count_operand a) (n + count_operand a + count_chain c)

  pub rows_operand : Operand → ℕ → List ℕ
  rows_operand (constant v) n = row layout.number v 0 0
  rows_operand (variable x) n = row layout.variable x 0 0
  rows_operand (element x e) n = rows_expression e n ++ row layout.element x (n + count_expression e - 1) 0
  rows_operand (bracketed e) n = rows_expression e n

-- "8 skip; 9 stop; 10 assign (var row, value); 11 assign element (array row, subscript, value); 12 two in sequence, a list grouped to the right; 13 if (condition, then, else); 14 while
-- (condition, body)"
unfoldable mutual
  pub rows_process : Process → ℕ → List ℕ
  rows_process skip n = row layout.skip 0 0 0
  rows_process stop n = row layout.stop 0 0 0
  rows_process (assign x e) n = rows_expression e n ++ row layout.assign x (n + count_expression e - 1) 0
  rows_process (assign_element x s e) n =
      rows_expression s n ++ rows_expression e (n + count_expression s) ++ row layout.assign_element x (n + count_expression s - 1) (n + count_expression s + count_expression e - 1)
  rows_process empty n = row layout.skip 0 0 0
  rows_process (braces ps) n = rows_processes ps n
  rows_process (conditional e p q) n = rows_expression e n ++ rows_process p (n + count_expression e) ++ rows_process q (n + count_expression e + count_process p)
      ++ row layout.if (n + count_expression e - 1) (n + count_expression e + count_process p - 1) (n + count_expression e + count_process p + count_process q - 1)
  rows_process (while e p) n = rows_expression e n ++ rows_process p (n + count_expression e) ++ row layout.while (n + count_expression e - 1) (n + count_expression e + count_process p - 1) 0
  rows_process (after_comment p) n = rows_process p n

  pub rows_processes : Processes → ℕ → List ℕ
  rows_processes (only p) n = rows_process p n
  rows_processes (followed p ps) n = rows_process p n ++ rows_processes ps (n + count_process p) ++ row layout.sequence (n + count_process p - 1) (n + count_process p + count_processes ps - 1) 0

-- "1 var; 2 array; val makes no row": how many rows the specifications make, which are made elsewhere and stand first
abbrev pub declared_by : Specification → ℕ
declared_by (var n) = 1
declared_by (array n c) = 1
declared_by (val n c) = 0
declared_by (commented s) = declared_by s

abbrev pub declared_rows : List Specification → ℕ
declared_rows [] = 0
declared_rows (s ∷ ss) = declared_by s + declared_rows ss

-- the number of a program's first raw row, and its raw rows
abbrev pub first_row : Program → ℕ
first_row (program ss p) = declared_rows ss

abbrev pub rows : Program → List ℕ
rows (program ss p) = rows_process p (declared_rows ss)

-- and how many rows its whole table has
abbrev pub row_count : Program → ℕ
row_count (program ss p) = declared_rows ss + count_process p
