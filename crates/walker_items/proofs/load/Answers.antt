-- `walker_items::load` meets its contract, by `loads`.
-- Assumes nothing.
use mathlib.Core.Path.{ap, ap₂, ◌∙◌}
use Prim.Native.Nat.{ℕ, ◌+◌}
use mathlib.Core.List.{List, ◌∷◌}
use Rattle.x_program.specs.declared.table.Row.{Row}
use Rattle.walker_items.specs.Doing.{loads}
use Rattle.walker_items.proofs.load.Goals as goal

pub returns-clause-shown : goal.returns-clause-shown
returns-clause-shown c =
    λ first old x f.
    loads f (ap₂ ◌+◌ (ap (λ (w : Row). w.a) c.declaration.ensures) c.take.ensures.top) c.word_at-w.ensures c.list.ensures.same_first (c.list.ensures.listed old)
    (c.push.ensures.room c.take.ensures.room ∙ ap (λ (s : List ℕ). c.word_at-w.result ∷ s) c.take.ensures.rest)
