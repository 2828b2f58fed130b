-- Depth of expressions, assigned elements and processes, on trees. Definitions; rests on the grammar's trees.
use Rattle.std.specs.Prelude.{Bool, ℕ, suc, max, ltb}
use Rattle.x_grammar.specs.Grammar.{Expression, single, monadic, diadic, Chain, last, more, Operand, constant, variable, element, bracketed, Process, skip, stop, assign, assign_element}
use Rattle.x_grammar.specs.Grammar.{empty, braces, conditional, while, after_comment, Processes, only, followed, Program, program}

-- "Depth: a constant or name is 1; brackets, a subscript, a monadic or a diadic operation add 1 to the deepest part, a chain counted as grouped."
abbrev mutual
  pub depth_expression : Expression → ℕ
  depth_expression (single a) = depth_operand a
  depth_expression (monadic o a) = suc (depth_operand a)
  depth_expression (diadic o a c) = suc (max (depth_operand a) (depth_chain c))

  -- "grouped to the right"
  pub depth_chain : Chain → ℕ
  depth_chain (last a) = depth_operand a
  depth_chain (more a c) = suc (max (depth_operand a) (depth_chain c))

  pub depth_operand : Operand → ℕ
  depth_operand (constant v) = 1
  depth_operand (variable n) = 1
  depth_operand (element n e) = suc (depth_expression e)
  depth_operand (bracketed e) = suc (depth_expression e)

-- "Skip, stop and assignment are process depth 1; if, while and braces add 1, so `{ }` is 1."
abbrev mutual
  pub depth_process : Process → ℕ
  depth_process skip = 1
  depth_process stop = 1
  depth_process (assign n e) = 1
  depth_process (assign_element n s e) = 1
  depth_process empty = 1
  depth_process (braces ps) = suc (depth_processes ps)
  depth_process (conditional e p q) = suc (max (depth_process p) (depth_process q))
  depth_process (while e p) = suc (depth_process p)
  depth_process (after_comment p) = depth_process p

  pub depth_processes : Processes → ℕ
  depth_processes (only p) = depth_process p
  depth_processes (followed p ps) = max (depth_process p) (depth_processes ps)

-- "N is the deepest expression, assigned elements included, 0 if none."
abbrev mutual
  pub deepest_process : Process → ℕ
  deepest_process skip = 0
  deepest_process stop = 0
  deepest_process (assign n e) = depth_expression e
  deepest_process (assign_element n s e) = max (suc (depth_expression s)) (depth_expression e)
  deepest_process empty = 0
  deepest_process (braces ps) = deepest_processes ps
  deepest_process (conditional e p q) = max (max (depth_expression e) (deepest_process p)) (deepest_process q)
  deepest_process (while e p) = max (depth_expression e) (deepest_process p)
  deepest_process (after_comment p) = deepest_process p

  pub deepest_processes : Processes → ℕ
  deepest_processes (only p) = deepest_process p
  deepest_processes (followed p ps) = max (deepest_process p) (deepest_processes ps)

-- a program's process depth and its N; specifications have neither
abbrev pub depth : Program → ℕ
depth (program ss p) = depth_process p

abbrev pub deepest : Program → ℕ
deepest (program ss p) = deepest_process p

-- refusal 7: "depth of an expression, assigned element or process above 32"
abbrev pub depth_limit : ℕ
depth_limit = 32

abbrev pub too_deep : Program → Bool
too_deep p = ltb depth_limit (max (depth p) (deepest p))
