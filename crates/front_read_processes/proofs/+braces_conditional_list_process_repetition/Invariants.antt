-- The measure is three times the unread tokens, and 1 for braces, conditional and repetition, 2 for process, 3 for list:
-- process calls the first three, and list calls process, at the same token.
-- The invariant of list: whatever the rest of the list reads as, the whole reads as that after the processes that wait in pending.
use Rattle.std.proofs.Common.{◌+◌, ◌-◌, ◌*◌, ◌≤◌, length}
use Rattle.front_read_processes.specs.Lists.{Kept, Resumes}
use Rattle.front_read_processes.proofs.+braces_conditional_list_process_repetition.Given as goal

abbrev pub decreases-braces : goal.decreases-braces
decreases-braces l = 3 * (length l.tokens.kinds.now - l.i) + 1

abbrev pub decreases-conditional : goal.decreases-conditional
decreases-conditional l = 3 * (length l.tokens.kinds.now - l.i) + 1

abbrev pub decreases-list : goal.decreases-list
decreases-list l = 3 * (length l.tokens.kinds.now - l.i) + 3

abbrev pub decreases-process : goal.decreases-process
decreases-process l = 3 * (length l.tokens.kinds.now - l.i) + 2

abbrev pub decreases-repetition : goal.decreases-repetition
decreases-repetition l = 3 * (length l.tokens.kinds.now - l.i) + 1

abbrev pub invariant-list-loop-part : goal.invariant-list-loop-part
invariant-list-loop-part l =
    (l.i ≤ l.so_far.next) × (l.so_far.next ≤ length l.tokens.kinds.now) × (l.so_far.rows + l.count ≤ l.so_far.next) × (l.top + l.count ≤ l.so_far.next)
    × (Kept l.initial.pending l.pending l.top)
    × (Resumes l.tokens.kinds.now l.tokens.values.now l.i l.n l.initial.table l.so_far.next l.so_far.rows l.table l.pending l.top l.count l.so_far.depth l.so_far.deepest)

abbrev pub decreases-list-loop-part : goal.decreases-list-loop-part
decreases-list-loop-part l = length l.tokens.kinds.now - l.so_far.next
