-- `text_listing::image_lines` meets its contract. The loop's invariant: the text from `at` on, put at `end`, comes to what the whole text put at the front does.
-- Assumes nothing.
use Prim.Native.Nat.{◌-◌, ◌≤◌}
use mathlib.Core.Path.{◌≡◌}
use lib.ListN.{length, drop}
use Rattle.text_disassembly.specs.ImageLines.{text_from}
use Rattle.text_buffer.specs.Buffer.{placed}
use Rattle.text_listing.proofs.image_lines.Given as goal

abbrev pub invariant-loop-at : goal.invariant-loop-at
invariant-loop-at l =
    (length l.image ≤ 65536)
    × (length l.out ≡ length l.initial.out)
    × (placed l.out l.end (text_from l.at (drop l.at l.image)) ≡ placed l.initial.out 0 (text_from 0 l.image))

abbrev pub decreases-loop-at : goal.decreases-loop-at
decreases-loop-at l = length l.image - l.at
