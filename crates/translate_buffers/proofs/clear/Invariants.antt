-- The invariant: clearing from i on what is cleared so far gives what clearing from n on would.
use Rattle.std.proofs.Common.{◌≡◌, length}
use Rattle.translate_buffers.specs.Buffers.{cleared}
use Rattle.translate_buffers.proofs.clear.Given as goal

abbrev pub invariant-loop-i : goal.invariant-loop-i
invariant-loop-i g l =
    let size = length l.initial.cells in
    (length l.cells ≡ size) × (cleared l.zero l.cells l.i size ≡ cleared l.zero l.initial.cells l.n size)
