-- `assignment` meets its contract, by the laws of specs/ProcessReaders.
use Rattle.std.proofs.Common.{sym, ◌∙◌, Ok, Err}
use native.Mathlib.Omega.{arith}
use Rattle.front_read_expressions.proofs.Passed.{passed}
use Rattle.front_read_processes.specs.ProcessReaders.{process_assign, process_assign_stop}
use Rattle.front_read_processes.proofs.assignment.Goals as goal

pub returns-in_ok-value-in-12 : goal.returns-in_ok-value-in-12
returns-in_ok-value-in-12 c =
    rw (c.deepen.ensures, c.add_row-whole.ensures.0, c.add_row-whole.ensures.1)
    (process_assign _ _ c.args.i c.args.n c.args.table.now (Ok _) _ c.requires.1 (sym c.kind_at.ensures ∙ c.in-12.is) c.in_ok-value-in-12.ensures)

pub returns-in_err-value-in-12 : goal.returns-in_err-value-in-12
returns-in_err-value-in-12 c =
    rw (passed _ _ c.from_residual.ensures.1)
    (process_assign _ _ c.args.i c.args.n c.args.table.now (Err _) c.expression.new.table c.requires.1 (sym c.kind_at.ensures ∙ c.in-12.is) c.in_err-value-in-12.ensures)

pub returns-in_default : goal.returns-in_default
returns-in_default c =
    let f = c.requires.0 in
    process_assign_stop _ _ c.args.i c.args.n c.args.table.now c.args.table.now c.requires.1 (λ e. omega arith) (λ e. omega arith)
