-- `arm_state::Core::link` meets its contract: a jump, and lr.
-- Rests on the definitions that its contract cites; assumes nothing.
use mathlib.Core.Path.{ap, ◌∙◌}
use Prim.Native.Nat.{ℕ}
use Rattle.arm_state.specs.State.{jump, link}
use Rattle.arm_state.specs.declared.Machine.{Machine}
use Rattle.arm_state.proofs.Core.link.Goals as goal

abbrev with_lr : ℕ → Machine → Machine
with_lr v m = record { regs = m.regs; sp = m.sp; lr = v; pc = m.pc; flags = m.flags }

pub returns : goal.returns
unfolding link jump
returns c = ap (with_lr _) c.jump-m.ensures ∙ rw c.add-lr.ensures
