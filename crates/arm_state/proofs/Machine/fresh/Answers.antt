-- `arm_state::Machine::fresh` meets its contract: the bytes of the needed words are reduced first, which the wrapped sum doesn't see.
-- Rests on the definitions that its contract cites; assumes nothing.
use mathlib.Core.Path.{◌≡◌, ap, ◌∙◌}
use mathlib.Core.List.{[], ◌∷◌}
use Prim.Native.Nat.{ℕ}
use native.Mathlib.Omega.{arith}
use Rattle.arm_state.specs.State.{base, no_flags, fresh_of}
use Rattle.arm_state.specs.declared.Machine.{Machine}
use borrow.Author.Rules.{rules}
use Rattle.arm_state.proofs.Machine.fresh.Goals as goal

abbrev with_sp : ℕ → Machine
with_sp sp = record { regs = 0 ∷ 0 ∷ 0 ∷ 0 ∷ 0 ∷ 0 ∷ 0 ∷ base ∷ []; sp = sp; lr = 0; pc = 0; flags = no_flags }

pub returns : goal.returns
unfolding fresh_of
returns c =
    let d : c.default.result ≡ no_flags = search rules in
    rw d (ap with_sp (c.add.ensures ∙ (let e = c.needed.ensures in omega arith)))
