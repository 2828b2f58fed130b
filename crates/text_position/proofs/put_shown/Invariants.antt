-- The loop's invariant of `text_position::put_shown`: the bytes so far were added as they are shown. Assumes nothing.
use mathlib.Core.Path.{◌≡◌}
use mathlib.Core.List.{◌++◌, map}
use lib.ListN.{take}
use Rattle.text_lines.specs.Text.{written, fitted}
use Rattle.text_position.specs.Position as spec
use Rattle.text_position.proofs.put_shown.Given as goal

abbrev pub invariant-loop-b : goal.invariant-loop-b
invariant-loop-b l = written l.l ≡ fitted (written l.initial.l ++ map spec.shown (take l.b-index l.s))
