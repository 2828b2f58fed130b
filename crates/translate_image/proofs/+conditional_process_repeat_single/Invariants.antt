-- Measure: 3r + 2 for a process in row r, 3r + 1 for one that is no sequence, 3r for an if or a while, since those are called with the row itself.
use Rattle.std.proofs.Common.{◌≡◌, ◌+◌, ◌*◌}
use Rattle.translate_image.specs.Onward.{Onward}
use Rattle.translate_image.proofs.+conditional_process_repeat_single.Given as goal

abbrev pub decreases-conditional : goal.decreases-conditional
decreases-conditional l = 3 * l.r

abbrev pub decreases-process : goal.decreases-process
decreases-process l = 3 * l.r + 2

abbrev pub decreases-repeat : goal.decreases-repeat
decreases-repeat l = 3 * l.r

abbrev pub decreases-single : goal.decreases-single
decreases-single l = 3 * l.r + 1

abbrev pub invariant-process-loop-w : goal.invariant-process-loop-w
invariant-process-loop-w l =
    (l.out.code.ghost_name ≡ l.initial.out.code.ghost_name) × Onward l.table l.r l.initial.out.code.now l.initial.out.at l.last l.w l.out.code.now l.out.at

abbrev pub decreases-process-loop-w : goal.decreases-process-loop-w
decreases-process-loop-w l = l.last
