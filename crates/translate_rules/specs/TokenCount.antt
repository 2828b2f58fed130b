-- The least number of tokens that a resolved tree is written with; comments and the separators in braces are not counted. Definitions.
use Rattle.std.specs.Prelude.{ℕ, ◌+◌}
use Rattle.x_program.specs.Tree.{Expression, constant, variable, element, monadic, diadic, bracket, Process, skip, stop, assign, assign_element, braces, conditional, loop, Processes, none, also}

abbrev pub tokens_of : Expression → ℕ
tokens_of (constant w) = 1
tokens_of (variable v) = 1
tokens_of (element a e) = tokens_of e + 3
tokens_of (monadic o e) = tokens_of e + 1
tokens_of (diadic o e f) = tokens_of e + tokens_of f + 1
tokens_of (bracket e) = tokens_of e + 2

abbrev mutual
  pub process_tokens : Process → ℕ
  process_tokens skip = 1
  process_tokens stop = 1
  process_tokens (assign v e) = tokens_of e + 2
  process_tokens (assign_element a s e) = tokens_of s + tokens_of e + 4
  process_tokens (braces ps) = list_tokens ps + 2
  process_tokens (conditional e p q) = tokens_of e + process_tokens p + process_tokens q + 3
  process_tokens (loop e p) = tokens_of e + process_tokens p + 2

  pub list_tokens : Processes → ℕ
  list_tokens none = 0
  list_tokens (also p ps) = process_tokens p + list_tokens ps
