-- The invariant: the instructions before the index are written.
use Rattle.std.proofs.Common.{take}
use Rattle.translate_emit_instructions.specs.Write.{Writes}
use Rattle.translate_emit_instructions.proofs.Writer.put_all.Given as goal

abbrev pub invariant-loop-i : goal.invariant-loop-i
invariant-loop-i l = Writes l.initial.self (take l.i-index l.instructions) l.self
