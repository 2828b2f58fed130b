-- The invariant: the joints that are left, from here, are the joints of the whole.
use Rattle.std.proofs.Common.{◌≡◌, ◌+◌, ◌<◌}
use Rattle.front_read_processes.specs.Lists.{joints}
use Rattle.front_read_processes.proofs.join.Given as goal

abbrev pub invariant-loop-c : goal.invariant-loop-c
invariant-loop-c l = (0 < l.next) × (l.next + l.c ≡ l.m + l.count) × (joints l.table l.next l.pending l.top l.c ≡ joints l.initial.table l.m l.pending l.top l.count)
