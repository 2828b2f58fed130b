-- `walker_run::walk` meets its contract: 36, then 33, then the walk over the words that the table declares.
-- Assumes nothing.
use mathlib.Core.Path.{sym, ap, ◌∙◌}
use Rattle.walker_run.specs.Handed.{left}
use Rattle.walker_run.specs.Walking.{bad_table, short_memory, taken, walked_over}
use Rattle.walker_run.specs.declared.Walked.{Walked}
use Rattle.walker_run.proofs.walk.Goals as goal

pub returns-in_default : goal.returns-in_default
returns-in_default c =
    let a = c.args in
    ap (λ (r : Walked). left r a.memory.now a.accesses.now) c.refused.ensures
    ∙ bad_table a.limit a.first a.table.now a.memory.now a.accesses.now (sym c.check.ensures ∙ c.in_default.is)

pub returns-then-memory-data : goal.returns-then-memory-data
returns-then-memory-data c =
    let a = c.args in
    ap (λ (r : Walked). left r a.memory.now a.accesses.now) c.refused-then-memory-data.ensures
    ∙ short_memory a.limit a.first a.table.now a.memory.now a.accesses.now c.in-Some.n (sym c.check.ensures ∙ c.in-Some.is) c.if-memory-data.true

pub returns : goal.returns
returns c =
    let a = c.args in
    let e = sym c.check.ensures ∙ c.in-Some.is in
    walked_over a.limit a.first a.table.now a.memory.now a.accesses.now c.in-Some.n e c.if-memory-data.false
    (c.run.ensures (taken a.limit a.first a.table.now a.memory.now a.accesses.now c.in-Some.n e))
