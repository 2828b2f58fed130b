-- Depth of a resolved program. Definitions.
use Rattle.std.specs.Prelude.{ℕ, suc, max}
use Rattle.x_program.specs.Tree.{Expression, constant, variable, element, monadic, diadic, bracket, Process, skip, stop, assign, assign_element, braces, conditional, loop, Processes, none, also}

-- Limits and refusals: "Depth: a constant or name is 1; brackets, a subscript, a monadic or a diadic operation add 1 to the deepest part"
abbrev pub depth : Expression → ℕ
depth (constant w) = 1
depth (variable v) = 1
depth (element a e) = suc (depth e)
depth (monadic o e) = suc (depth e)
depth (diadic o e f) = suc (max (depth e) (depth f))
depth (bracket e) = suc (depth e)

-- "N is the deepest expression, assigned elements included, 0 if none"
abbrev mutual
  pub deepest : Process → ℕ
  deepest skip = 0
  deepest stop = 0
  deepest (assign v e) = depth e
  deepest (assign_element a s e) = max (suc (depth s)) (depth e)
  deepest (braces ps) = deepest_of ps
  deepest (conditional e p q) = max (depth e) (max (deepest p) (deepest q))
  deepest (loop e p) = max (depth e) (deepest p)

  pub deepest_of : Processes → ℕ
  deepest_of none = 0
  deepest_of (also p ps) = max (deepest p) (deepest_of ps)
