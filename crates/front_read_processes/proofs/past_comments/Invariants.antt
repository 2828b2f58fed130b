-- The invariant: the tokens from i on, up to j, are comments.
use Rattle.front_read_processes.specs.Forms.{Comments}
use Rattle.front_read_processes.proofs.past_comments.Given as goal

abbrev pub invariant-loop-j : goal.invariant-loop-j
invariant-loop-j l = Comments l.kinds l.i l.j
