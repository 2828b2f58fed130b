-- A program has no more rows than tokens. Laws; rests on the grammar's texts and rows.
use Rattle.std.specs.Prelude.{ℕ, ◌+◌, ◌≤◌, List, [], ◌∷◌, length}
use Rattle.std.proofs.Common.{arith}
use Rattle.x_spelling.specs.Kinds as kind
use Rattle.x_grammar.specs.Grammar.{Token, mark, Constant, literal, named, Specification, var, array, val, commented, Expression, single, monadic, diadic, Chain, last, more, Operand}
use Rattle.x_grammar.specs.Grammar.{constant, variable, element, bracketed, Process, skip, stop, assign, assign_element, empty, braces, conditional, while, after_comment, Processes, only}
use Rattle.x_grammar.specs.Grammar.{followed, Program, program, text_expression, text_chain, text_operand, text_process, text_processes, text_constant, text_specification}
use Rattle.x_grammar.specs.Grammar.{text_specifications, text_program}
use Rattle.x_grammar.specs.RawRows.{count_expression, count_chain, count_operand, count_process, count_processes, declared_by, declared_rows, row_count}

mutual
  unfolding count_expression

  few_E : (e : Expression) (w : List Token) → count_expression e + length w ≤ length (text_expression e w)
  few_E (single a) w = few_O a w
  few_E (monadic o a) w = omega (arith, few_O a w)
  few_E (diadic o a c) w = omega (arith, few_O a (mark o ∷ text_chain c o w), few_C c o w)

  few_C : (c : Chain) (o : ℕ) (w : List Token) → count_chain c + length w ≤ length (text_chain c o w)
  few_C (last a) o w = few_O a w
  few_C (more a c) o w = omega (arith, few_O a (mark o ∷ text_chain c o w), few_C c o w)

  few_O : (a : Operand) (w : List Token) → count_operand a + length w ≤ length (text_operand a w)
  few_O (constant v) w = omega arith
  few_O (variable n) w = omega arith
  few_O (element n e) w = omega (arith, few_E e (mark kind.close_subscript ∷ w))
  few_O (bracketed e) w = omega (arith, few_E e (mark kind.close_bracket ∷ w))

mutual
  unfolding count_process

  pub few_P : (p : Process) (w : List Token) → count_process p + length w ≤ length (text_process p w)
  few_P skip w = omega arith
  few_P stop w = omega arith
  few_P (assign n e) w = omega (arith, few_E e w)
  few_P (assign_element n i e) w = omega (arith, few_E i (mark kind.close_subscript ∷ mark kind.becomes ∷ text_expression e w), few_E e w)
  few_P empty w = omega arith
  few_P (braces ps) w = omega (arith, few_L ps (mark kind.close_brace ∷ w))
  few_P (conditional e p q) w = omega (arith, few_E e (mark kind.then ∷ text_process p (mark kind.else ∷ text_process q w)), few_P p (mark kind.else ∷ text_process q w), few_P q w)
  few_P (while e p) w = omega (arith, few_E e (mark kind.do_word ∷ text_process p w), few_P p w)
  few_P (after_comment p) w = omega (arith, few_P p w)

  few_L : (ps : Processes) (w : List Token) → count_processes ps + length w ≤ length (text_processes ps w)
  few_L (only p) w = few_P p w
  few_L (followed p ps) w = omega (arith, few_P p (mark kind.semicolon ∷ text_processes ps w), few_L ps w)

constant_text : (c : Constant) (w : List Token) → length w ≤ length (text_constant c w)
constant_text (literal v) w = omega arith
constant_text (named n) w = omega arith

few_S : (d : Specification) (w : List Token) → declared_by d + length w ≤ length (text_specification d w)
few_S (var n) w = omega arith
few_S (array n c) w = omega (arith, constant_text c (mark kind.close_subscript ∷ w))
few_S (val n c) w = omega (arith, constant_text c w)
few_S (commented d) w = omega (arith, few_S d w)

pub few_Ss : (ds : List Specification) (w : List Token) → declared_rows ds + length w ≤ length (text_specifications ds w)
few_Ss [] w = omega arith
few_Ss (d ∷ ds) w = omega (arith, few_S d (mark kind.semicolon ∷ text_specifications ds w), few_Ss ds w)

pub few_rows : (p : Program) → row_count p ≤ length (text_program p)
few_rows (program ds p) = omega (arith, few_Ss ds (text_process p []), few_P p [])
