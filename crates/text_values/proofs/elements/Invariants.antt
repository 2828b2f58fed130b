-- The loop's invariant of `text_values::elements`: the lines of the elements before `i` are put. Assumes nothing.
use mathlib.Core.Path.{◌≡◌}
use Rattle.text_buffer.specs.Buffer.{left, placed}
use Rattle.text_values.specs.Values.{element_lines}
use Rattle.text_values.proofs.elements.Given as goal

abbrev pub invariant-loop-i : goal.invariant-loop-i
invariant-loop-i l = left l.out l.end ≡ placed l.initial.out l.at (element_lines l.words l.first l.name l.i)
