-- `walker_check::check` meets its contract: too much data, or a table that can be run.
-- Assumes nothing.
use mathlib.Core.Path.{sym, ◌∙◌}
use Rattle.walker_check.specs.TableCheckLaws.{much_data, all_right}
use Rattle.walker_check.proofs.check.Goals as goal

pub returns-then-data-gt-DATA : goal.returns-then-data-gt-DATA
returns-then-data-gt-DATA c =
    let x = c.args in
    much_data x.table.now _ (sym c.rows_fit.ensures ∙ c.in_ok-data.was) c.if-data-gt-DATA.true

pub returns : goal.returns
returns c =
    let x = c.args in
    all_right x.table.now _ c.if-table-ne0.false c.if-n-gt-ROWS.false
    (sym c.ends_in_process.ensures ∙ c.if-not-ends_in_process.false)
    (sym c.rows_fit.ensures ∙ c.in_ok-data.was) c.if-data-gt-DATA.false
