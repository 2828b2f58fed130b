-- `element_assignment` meets its contract: the subscript with its `] :=` is one closed part, the value another.
use Rattle.std.proofs.Common.{◌+◌, Ok, Err}
use Rattle.front_read_expressions.proofs.Passed.{passed}
use Rattle.front_read_processes.specs.ProcessReaders.{close_target, element_bad, process_assign_element}
use Rattle.front_read_processes.proofs.element_assignment.Goals as goal

pub returns-in_err-e : goal.returns-in_err-e
returns-in_err-e c =
    rw (passed _ _ c.from_residual.ensures.1)
    (element_bad _ _ c.args.i c.args.n c.args.table.now c.requires.1 c.requires.2 _ c.expression.new.table
    (close_target _ _ (c.args.i + 2) c.args.n c.args.table.now (Err _) c.expression.new.table c.args.i c.in_err-e.ensures))

pub returns-in_err-target : goal.returns-in_err-target
returns-in_err-target c =
    let h = close_target _ _ (c.args.i + 2) c.args.n c.args.table.now (Ok _) c.expression.new.table c.args.i c.in_ok-e.ensures in
    rw (passed _ _ c.from_residual-in_err-target.ensures.1)
    (element_bad _ _ c.args.i c.args.n c.args.table.now c.requires.1 c.requires.2 _ c.expression.new.table (rw (← c.close-subscript.ensures, ← c.in_err-target.ensures) at h))

pub returns-in_err-value : goal.returns-in_err-value
returns-in_err-value c =
    let h = close_target _ _ (c.args.i + 2) c.args.n c.args.table.now (Ok _) c.expression.new.table c.args.i c.in_ok-e.ensures in
    let g = rw (← c.close-subscript.ensures, ← c.in_ok-target.ensures) at h in
    rw (passed _ _ c.from_residual-in_err-value.ensures.1)
    (process_assign_element _ _ c.args.i c.args.n c.args.table.now c.requires.1 c.requires.2 _ _ g (Err _) c.expression-2.new.table c.in_err-value.ensures)

pub returns : goal.returns
returns c =
    let h = close_target _ _ (c.args.i + 2) c.args.n c.args.table.now (Ok _) c.expression.new.table c.args.i c.in_ok-e.ensures in
    let g = rw (← c.close-subscript.ensures, ← c.in_ok-target.ensures) at h in
    rw (c.deepen.ensures, c.add_row_of_two-whole.ensures.0, c.add_row_of_two-whole.ensures.1)
    (process_assign_element _ _ c.args.i c.args.n c.args.table.now c.requires.1 c.requires.2 _ _ g (Ok _) _ c.in_ok-value.ensures)
