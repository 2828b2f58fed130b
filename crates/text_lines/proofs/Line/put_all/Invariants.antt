-- The loop's invariant of `text_lines::Line::put_all`: the bytes so far were added to the line that it began with. Assumes nothing.
use mathlib.Core.Path.{◌≡◌}
use mathlib.Core.List.{◌++◌}
use lib.ListN.{take}
use Rattle.text_lines.specs.Text.{written, fitted}
use Rattle.text_lines.proofs.Line.put_all.Given as goal

abbrev pub invariant-loop-b : goal.invariant-loop-b
invariant-loop-b l = written l.line ≡ fitted (written l.initial.line ++ take l.b-index l.s)
