-- Expressions nest no deeper than they are deep. Laws; rests on Nesting and TreeDepth.
use Rattle.std.specs.Prelude.{◌≤◌}
use Rattle.std.proofs.Common.{arith}
use Rattle.x_grammar.specs.Grammar.{Expression, single, monadic, diadic, Chain, last, more, Operand, constant, variable, element, bracketed, Process, skip, stop, assign, assign_element}
use Rattle.x_grammar.specs.Grammar.{empty, braces, conditional, while, after_comment, Processes, only, followed}
use Rattle.x_grammar.specs.TreeDepth.{depth_expression, depth_chain, depth_operand, deepest_process, deepest_processes}
use Rattle.x_grammar.specs.Nesting.{nesting_expression, nesting_chain, nesting_operand, within_process, within_processes}

mutual
  pub nests_expression : (e : Expression) → nesting_expression e ≤ depth_expression e
  nests_expression (single a) = nests_operand a
  nests_expression (monadic o a) = omega (arith, nests_operand a)
  nests_expression (diadic o a c) = omega (arith, nests_operand a, nests_chain c)

  pub nests_chain : (c : Chain) → nesting_chain c ≤ depth_chain c
  nests_chain (last a) = nests_operand a
  nests_chain (more a c) = omega (arith, nests_operand a, nests_chain c)

  pub nests_operand : (a : Operand) → nesting_operand a ≤ depth_operand a
  nests_operand (constant v) = omega arith
  nests_operand (variable n) = omega arith
  nests_operand (element n e) = omega (arith, nests_expression e)
  nests_operand (bracketed e) = omega (arith, nests_expression e)

mutual
  pub nests_within : (p : Process) → within_process p ≤ deepest_process p
  nests_within skip = omega arith
  nests_within stop = omega arith
  nests_within (assign n e) = nests_expression e
  nests_within (assign_element n s e) = omega (arith, nests_expression s, nests_expression e)
  nests_within empty = omega arith
  nests_within (braces ps) = nests_within_list ps
  nests_within (conditional e p q) = omega (arith, nests_expression e, nests_within p, nests_within q)
  nests_within (while e p) = omega (arith, nests_expression e, nests_within p)
  nests_within (after_comment p) = nests_within p

  pub nests_within_list : (ps : Processes) → within_processes ps ≤ deepest_processes ps
  nests_within_list (only p) = nests_within p
  nests_within_list (followed p ps) = omega (arith, nests_within p, nests_within_list ps)
