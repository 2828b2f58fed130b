-- The tree that the syntax table holds: no brackets, no braces, lists in twos. Definitions.
use Rattle.std.specs.Prelude.{ℕ}
use Rattle.x_program.specs.Tree as tree
use Rattle.x_program.specs.Tree.{Monadic, Diadic, Variable, Array}

pub data Expression : Type 0 where
  constant : ℕ → Expression
  variable : Variable → Expression
  element : Array → Expression → Expression
  monadic : Monadic → Expression → Expression
  diadic : Diadic → Expression → Expression → Expression

pub data Process : Type 0 where
  skip : Process
  stop : Process
  assign : Variable → Expression → Process
  assign_element : Array → Expression → Expression → Process
  sequence : Process → Process → Process
  conditional : Expression → Process → Process → Process
  loop : Expression → Process → Process

-- The syntax table: "brackets and one-process braces make no row"
abbrev pub core : tree.Expression → Expression
core (tree.constant w) = constant w
core (tree.variable v) = variable v
core (tree.element a e) = element a (core e)
core (tree.monadic o e) = monadic o (core e)
core (tree.diadic o e f) = diadic o (core e) (core f)
core (tree.bracket e) = core e

-- a process before the rest of its list: the last one stands alone, else the two are in sequence
abbrev pub joined : Process → tree.Processes → Process → Process
joined p tree.none rest = p
joined p (tree.also q qs) rest = sequence p rest

-- "12 two in sequence, a list grouped to the right"; "`{ }` is skip"
abbrev mutual
  pub core_process : tree.Process → Process
  core_process tree.skip = skip
  core_process tree.stop = stop
  core_process (tree.assign v e) = assign v (core e)
  core_process (tree.assign_element a s e) = assign_element a (core s) (core e)
  core_process (tree.braces ps) = core_list ps
  core_process (tree.conditional e p q) = conditional (core e) (core_process p) (core_process q)
  core_process (tree.loop e p) = loop (core e) (core_process p)

  pub core_list : tree.Processes → Process
  core_list tree.none = skip
  core_list (tree.also p ps) = joined (core_process p) ps (core_list ps)
