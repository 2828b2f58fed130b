-- `walker_items::repeat` meets its contract, by `repeats_no_more` and `repeats`.
-- Assumes nothing.
use mathlib.Core.Path.{sym, ap, ◌∙◌}
use Rattle.x_program.specs.declared.table.Row.{Row}
use Rattle.walker_items.specs.Doing.{repeats_no_more, repeats}
use Rattle.walker_items.proofs.repeat.Goals as goal

pub returns-then-take-eq0-clause-shown : goal.returns-then-take-eq0-clause-shown
returns-then-take-eq0-clause-shown c = λ first old words buffer x h f. repeats_no_more f (sym c.take.ensures.top ∙ c.if-take-eq0.true) c.take.ensures.rest

pub returns-clause-shown : goal.returns-clause-shown
returns-clause-shown c =
    λ first old words buffer x h f.
    repeats f (ap (λ (w : Row). w.b) c.row_at.ensures) (λ z. c.if-take-eq0.false (c.take.ensures.top ∙ z)) c.take.ensures.rest (c.push.ensures.room h)
