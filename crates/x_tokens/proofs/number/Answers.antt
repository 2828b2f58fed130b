-- `x_tokens::number` meets its contract. A run's bytes stand in the source.
-- Assumes nothing.
use native.Mathlib.Omega.{arith}
use lib.ListN.{drop, length-drop}
use Rattle.x_spelling.specs.Runs.{span_length}
use Rattle.x_spelling.specs.declared.Class.TheVariants.{Digit}
use Rattle.x_tokens.proofs.number.Goals as goal

pub overflow_add-result : goal.overflow_add-result
overflow_add-result c = let h = simp length-drop at (span_length (Digit c.args.base) (drop c.args.i c.args.s.now)) in omega arith
