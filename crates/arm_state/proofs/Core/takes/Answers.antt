-- `arm_state::Core::takes` meets its contract: a test a register, and none that is above 7.
-- Rests on the definitions that its contract cites; assumes nothing.
use mathlib.Core.Path.{ap}
use mathlib.Core.List.{List}
use Prim.Native.Nat.{ℕ}
use Rattle.arm_word.specs.Word.{add}
use Rattle.arm_state.specs.MachineCoreLaws.{set_by_tests}
use Rattle.arm_state.specs.State.{takes}
use Rattle.arm_state.proofs.Core.takes.Goals as goal

pub returns : goal.returns
unfolding takes
returns c =
    let x = c.args in
    let m = x.self in
    rw (
      c.add.ensures,
      c.choose.ensures,
      c.choose-2.ensures,
      c.choose-3.ensures,
      c.choose-4.ensures,
      c.choose-5.ensures,
      c.choose-6.ensures,
      c.choose-7.ensures,
      c.choose-8.ensures,
    )
    (ap (λ (r : List ℕ). record { regs = r; sp = m.sp; lr = m.lr; pc = add m.pc 2; flags = m.flags })
    (set_by_tests m.r0 m.r1 m.r2 m.r3 m.r4 m.r5 m.r6 m.r7 x.d x.v))
