-- `x_tokens::named` meets its contract. A run's bytes stand in the source.
-- Assumes nothing.
use native.Mathlib.Omega.{arith}
use lib.ListN.{drop, length-drop}
use Rattle.x_spelling.specs.Runs.{span_length}
use Rattle.x_spelling.specs.declared.Class.TheVariants.{Name}
use Rattle.x_tokens.proofs.named.Goals as goal

pub slice_bounds-word_of-end : goal.slice_bounds-word_of-end
slice_bounds-word_of-end c = let h = simp length-drop at (span_length Name (drop c.args.i c.args.s.now)) in omega arith
