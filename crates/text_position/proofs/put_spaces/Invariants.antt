-- The loop's invariant of `text_position::put_spaces`: so many spaces were added. Assumes nothing.
use mathlib.Core.Path.{◌≡◌}
use mathlib.Core.List.{◌++◌}
use Rattle.text_lines.specs.Text.{written, fitted}
use Rattle.text_position.specs.Position as spec
use Rattle.text_position.proofs.put_spaces.Given as goal

abbrev pub invariant-loop : goal.invariant-loop
invariant-loop l = written l.l ≡ fitted (written l.initial.l ++ spec.spaces l.counter)
