-- `walker_check::rows_fit` meets its contract. Invariant: the rows passed fit, and their words are counted; each is at most 8,192 words, so that no sum wraps.
-- Assumes nothing.
use Rattle.walker_check.specs.TableCheckLaws.{Counting}
use Rattle.walker_check.proofs.rows_fit.Given as goal

abbrev pub invariant-loop-r : goal.invariant-loop-r
invariant-loop-r l = Counting l.table l.data l.r
