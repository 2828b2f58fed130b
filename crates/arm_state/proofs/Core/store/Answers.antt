-- `arm_state::Core::store` meets its contract: what `align` and `slot_of` found selects the definition's case; the slot is below the length, so the write is in range.
-- Rests on the definitions that its contract cites; assumes nothing.
use Rattle.std.specs.Prelude.{ℕ, Option}
use Rattle.arm_state.specs.declared.Stepped.{Stepped}
use Rattle.arm_state.specs.MachineCore.{whole}
use Rattle.arm_state.specs.Effects.{done}
use lib.ListN.{set}
use mathlib.Core.Path.{sym, ap, ap₂, ◌∙◌}
use Rattle.arm_state.specs.Effects.{store, store_at, store_slot, after}
use Rattle.arm_state.specs.Lookup.{slot_lt}
use borrow.Author.Rules.{rules}
use Rattle.arm_state.proofs.Core.store.Goals as goal

pub returns-in_default : goal.returns-in_default
unfolding store
returns-in_default c =
    let align = c.align in let x = c.args in
    ap (λ (s : Stepped). after s x.memory.now) c.fault.ensures
    ∙ ap (λ (a : Option ℕ). (store_at x.memory.now (whole x.self) x.d a).after) (sym c.in_default.is ∙ align.ensures)

pub returns-in_default-slot_of : goal.returns-in_default-slot_of
unfolding store
returns-in_default-slot_of c =
    let slot_of = c.slot_of in let align = c.align in let x = c.args in
    ap (λ (s : Stepped). after s x.memory.now) c.fault-in_default-slot_of.ensures
    ∙ ap (λ (s : Option ℕ). (store_slot x.memory.now (whole x.self) x.d s).after) (sym c.in_default-slot_of.is ∙ slot_of.ensures)
    ∙ ap (λ (a : Option ℕ). (store_at x.memory.now (whole x.self) x.d a).after) (sym c.in-Some.is ∙ align.ensures)

pub offset_bounds-memory-i : goal.offset_bounds-memory-i
offset_bounds-memory-i c = let l = slot_lt _ _ _ (sym c.slot_of.ensures ∙ c.in-Some-slot_of.is) in search rules

pub bounds-memory-i : goal.bounds-memory-i
bounds-memory-i c = slot_lt _ _ _ (sym c.slot_of.ensures ∙ c.in-Some-slot_of.is)

pub returns : goal.returns
unfolding store
returns c =
    let slot_of = c.slot_of in
    let align = c.align in
    let x = c.args in
    ap₂ after (ap done c.next.ensures) (ap (set x.memory.now c.in-Some-slot_of.i) c.reg.ensures)
    ∙ ap (λ (s : Option ℕ). (store_slot x.memory.now (whole x.self) x.d s).after) (sym c.in-Some-slot_of.is ∙ slot_of.ensures)
    ∙ ap (λ (a : Option ℕ). (store_at x.memory.now (whole x.self) x.d a).after) (sym c.in-Some.is ∙ align.ensures)
