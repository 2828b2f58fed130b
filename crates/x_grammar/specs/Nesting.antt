-- How many calls of the recursive readers stand in one another while a tree is read: what bounds their stack. Definitions; rests on the grammar's trees.
-- The readers are `process` of crate processes, and `expression` and `chain` of crate expressions. Of other calls at most two stand between two of `process`
-- (`braces` and `list`), and at most one between two of `expression` and `chain` (`operand`). Lists, comments and specifications are read by loops.
use Rattle.std.specs.Prelude.{◌≡◌, ℕ, suc, ◌≤◌, max}
use Rattle.x_grammar.specs.Grammar.{Expression, single, monadic, diadic, Chain, last, more, Operand, constant, variable, element, bracketed, Process, skip, stop, assign, assign_element}
use Rattle.x_grammar.specs.Grammar.{empty, braces, conditional, while, after_comment, Processes, only, followed, Program, program}
use Rattle.x_grammar.specs.Automaton.{Reading, accepted}
use Rattle.x_grammar.specs.TreeDepth.{depth_limit}

-- Calls of `process` that call a reader: braces, if and while call it again for each process inside, one after the other, and an assignment calls `expression`.
-- For skip and stop it calls none: these count nothing.
abbrev mutual
  pub nesting_process : Process → ℕ
  nesting_process skip = 0
  nesting_process stop = 0
  nesting_process (assign n e) = 1
  nesting_process (assign_element n s e) = 1
  nesting_process empty = 1
  nesting_process (braces ps) = suc (nesting_processes ps)
  nesting_process (conditional e p q) = suc (max (nesting_process p) (nesting_process q))
  nesting_process (while e p) = suc (nesting_process p)
  nesting_process (after_comment p) = nesting_process p

  pub nesting_processes : Processes → ℕ
  nesting_processes (only p) = nesting_process p
  nesting_processes (followed p ps) = max (nesting_process p) (nesting_processes ps)

-- Calls of `expression` and `chain`: `operand` calls `expression` for brackets and for a subscript, `expression` calls `chain` for the operands after an operator, and `chain` itself for those
-- after the next. An operand before an operator has been read by then, so the operator adds nothing to it. A monadic operator counts one, as in depth, though it takes no call of these.
abbrev mutual
  pub nesting_expression : Expression → ℕ
  nesting_expression (single a) = nesting_operand a
  nesting_expression (monadic o a) = suc (nesting_operand a)
  nesting_expression (diadic o a c) = max (nesting_operand a) (suc (nesting_chain c))

  pub nesting_chain : Chain → ℕ
  nesting_chain (last a) = nesting_operand a
  nesting_chain (more a c) = max (nesting_operand a) (suc (nesting_chain c))

  pub nesting_operand : Operand → ℕ
  nesting_operand (constant v) = 1
  nesting_operand (variable n) = 1
  nesting_operand (element n e) = suc (nesting_expression e)
  nesting_operand (bracketed e) = suc (nesting_expression e)

-- The most of these for an expression in a process. An assigned element's subscript counts one more, as in depth, though it takes no call more.
abbrev mutual
  pub within_process : Process → ℕ
  within_process skip = 0
  within_process stop = 0
  within_process (assign n e) = nesting_expression e
  within_process (assign_element n s e) = max (suc (nesting_expression s)) (nesting_expression e)
  within_process empty = 0
  within_process (braces ps) = within_processes ps
  within_process (conditional e p q) = max (max (nesting_expression e) (within_process p)) (within_process q)
  within_process (while e p) = max (nesting_expression e) (within_process p)
  within_process (after_comment p) = within_process p

  pub within_processes : Processes → ℕ
  within_processes (only p) = within_process p
  within_processes (followed p ps) = max (within_process p) (within_processes ps)

-- a program's: of processes, or of expressions within one
abbrev pub nesting : Program → ℕ
nesting (program ss p) = max (nesting_process p) (within_process p)

-- what the recursive readers may be called for: tokens that read as a program which nests within the limit of depth
pub record Bounded (r : Reading) : Type 0 where
  pub tree : Program
  pub reading : r ≡ accepted tree
  pub bounded : nesting tree ≤ depth_limit
