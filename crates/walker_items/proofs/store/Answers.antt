-- `walker_items::store` meets its contract, by `stores`.
-- Assumes nothing.
use mathlib.Core.Path.{ap, ap₂, ◌∙◌}
use Prim.Native.Nat.{◌+◌}
use Rattle.x_program.specs.declared.table.Row.{Row}
use Rattle.x_meaning.specs.SourceRun.{top, rest}
use Rattle.walker_items.specs.Doing.{stores}
use Rattle.walker_items.proofs.store.Goals as goal

pub returns-clause-shown : goal.returns-clause-shown
returns-clause-shown c =
    λ first old x f.
    stores f (ap₂ ◌+◌ (ap (λ (w : Row). w.a) c.declaration.ensures) (c.take.ensures.top ∙ ap top c.take-w.ensures.rest)) c.take-w.ensures.top c.word_at.ensures
    c.list.ensures.same_first (c.list.ensures.listed old) c.set_word.ensures (c.take.ensures.rest ∙ ap rest c.take-w.ensures.rest)
