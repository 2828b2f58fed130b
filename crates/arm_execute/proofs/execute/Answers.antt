-- `arm_execute::execute` meets its contract: each arm is the clause of `execute_of` at the constructor that the match found, with the equations of what it called.
-- Rests on the definitions that its contract cites; assumes nothing.
use mathlib.Core.Path.{◌≡◌, sym, ap, ◌∙◌}
use mathlib.Core.Bool.{not}
use Rattle.arm_state.specs.Effects.{execute_of}
use Rattle.arm_state.specs.declared.Machine.{Machine}
use Rattle.arm_encoding.specs.declared.Instr.{Instr}
use mathlib.Core.List.{List}
use Prim.Native.Nat.{ℕ}
use Rattle.arm_state.specs.MachineCoreLaws.{told, jumps, stays}
use Rattle.arm_state.specs.Effects.{done}
use Rattle.arm_execute.proofs.execute.Goals as goal

at_instruction : (c w : List ℕ) (m : Machine) {i j : Instr} → i ≡ j → (execute_of c w m j).after ≡ (execute_of c w m i).after
at_instruction c w m e = sym (ap (λ (i : Instr). (execute_of c w m i).after) e)

pub returns-then-core : goal.returns-then-core
unfolding execute_of
returns-then-core c =
    told (ap done (c.jump.ensures ∙ jumps _ _ _ c.if-core.true))
    ∙ at_instruction _ _ _ c.in-Beq.is

pub returns-then-not-core : goal.returns-then-not-core
unfolding execute_of
returns-then-not-core c =
    told (ap done (c.jump-then-not-core.ensures ∙ jumps _ _ _ c.if-not-core.true))
    ∙ at_instruction _ _ _ c.in-Bne.is

pub returns-then-not-less : goal.returns-then-not-less
unfolding execute_of
returns-then-not-less c =
    told (ap done (c.jump-then-not-less.ensures ∙ jumps _ _ _ (ap not (sym c.less.ensures ∙ c.if-not-less.true))))
    ∙ at_instruction _ _ _ c.in-Bge.is

pub returns-then-less : goal.returns-then-less
unfolding execute_of
returns-then-less c =
    told (ap done (c.jump-then-less.ensures ∙ jumps _ _ _ (sym c.less-in-Blt.ensures ∙ c.if-less.true)))
    ∙ at_instruction _ _ _ c.in-Blt.is

pub returns-in-Shli : goal.returns-in-Shli
unfolding execute_of
returns-in-Shli c =
    told (ap done c.shifts_left.ensures)
    ∙ rw c.reg.ensures (at_instruction _ _ _ c.in-Shli.is)

pub returns-in-Shri : goal.returns-in-Shri
unfolding execute_of
returns-in-Shri c =
    told (ap done c.shifts_right.ensures)
    ∙ rw c.reg-in-Shri.ensures (at_instruction _ _ _ c.in-Shri.is)

pub returns-in-Ashri : goal.returns-in-Ashri
unfolding execute_of
returns-in-Ashri c =
    told (ap done c.shifts_right_signed.ensures)
    ∙ rw c.reg-in-Ashri.ensures (at_instruction _ _ _ c.in-Ashri.is)

pub returns-in-Addr : goal.returns-in-Addr
unfolding execute_of
returns-in-Addr c =
    told (ap done c.adds.ensures)
    ∙ rw (c.reg-in-Addr-2.ensures, c.reg-in-Addr.ensures) (at_instruction _ _ _ c.in-Addr.is)

pub returns-in-Subr : goal.returns-in-Subr
unfolding execute_of
returns-in-Subr c =
    told (ap done c.subtracts.ensures)
    ∙ rw (c.reg-in-Subr-2.ensures, c.reg-in-Subr.ensures) (at_instruction _ _ _ c.in-Subr.is)

pub returns-in-Movi : goal.returns-in-Movi
unfolding execute_of
returns-in-Movi c = told (ap done c.sets.ensures) ∙ at_instruction _ _ _ c.in-Movi.is

pub returns-in-Addi : goal.returns-in-Addi
unfolding execute_of
returns-in-Addi c =
    told (ap done c.adds-in-Addi.ensures)
    ∙ rw c.reg-in-Addi.ensures (at_instruction _ _ _ c.in-Addi.is)

pub returns-in-Subi : goal.returns-in-Subi
unfolding execute_of
returns-in-Subi c =
    told (ap done c.subtracts-in-Subi.ensures)
    ∙ rw c.reg-in-Subi.ensures (at_instruction _ _ _ c.in-Subi.is)

pub returns-in-Ldrpci : goal.returns-in-Ldrpci
unfolding execute_of
returns-in-Ldrpci c =
    c.load.ensures
    ∙ rw (c.add.ensures, c.times4.ensures, c.here.ensures)
    (at_instruction _ _ _ c.in-Ldrpci.is)

pub returns-in-Strspi : goal.returns-in-Strspi
unfolding execute_of
returns-in-Strspi c =
    c.store.ensures
    ∙ rw (c.add-in-Strspi.ensures, c.times4-in-Strspi.ensures)
    (at_instruction _ _ _ c.in-Strspi.is)

pub returns-in-Ldrspi : goal.returns-in-Ldrspi
unfolding execute_of
returns-in-Ldrspi c =
    c.load-in-Ldrspi.ensures
    ∙ rw (c.add-in-Ldrspi.ensures, c.times4-in-Ldrspi.ensures)
    (at_instruction _ _ _ c.in-Ldrspi.is)

pub returns-in-Addpci : goal.returns-in-Addpci
unfolding execute_of
returns-in-Addpci c =
    told (ap done c.takes.ensures)
    ∙ rw (c.add-in-Addpci.ensures, c.times4-in-Addpci.ensures, c.here-in-Addpci.ensures)
    (at_instruction _ _ _ c.in-Addpci.is)

pub returns-in-Addspi : goal.returns-in-Addspi
unfolding execute_of
returns-in-Addspi c =
    told (ap done c.takes-in-Addspi.ensures)
    ∙ rw (c.add-in-Addspi.ensures, c.times4-in-Addspi.ensures)
    (at_instruction _ _ _ c.in-Addspi.is)

pub returns-in-Andr : goal.returns-in-Andr
unfolding execute_of
returns-in-Andr c =
    told (ap done c.sets-in-Andr.ensures)
    ∙ rw (c.reg-in-Andr-2.ensures, c.reg-in-Andr.ensures) (at_instruction _ _ _ c.in-Andr.is)

pub returns-in-Xorr : goal.returns-in-Xorr
unfolding execute_of
returns-in-Xorr c =
    told (ap done c.sets-in-Xorr.ensures)
    ∙ rw (c.reg-in-Xorr-2.ensures, c.reg-in-Xorr.ensures) (at_instruction _ _ _ c.in-Xorr.is)

pub returns-in-Shl : goal.returns-in-Shl
unfolding execute_of
returns-in-Shl c =
    told (ap done c.shifts_left-in-Shl.ensures)
    ∙ rw (c.reg-in-Shl-2.ensures, c.reg-in-Shl.ensures) (at_instruction _ _ _ c.in-Shl.is)

pub returns-in-Shr : goal.returns-in-Shr
unfolding execute_of
returns-in-Shr c =
    told (ap done c.shifts_right-in-Shr.ensures)
    ∙ rw (c.reg-in-Shr-2.ensures, c.reg-in-Shr.ensures) (at_instruction _ _ _ c.in-Shr.is)

pub returns-in-Negr : goal.returns-in-Negr
unfolding execute_of
returns-in-Negr c =
    told (ap done c.subtracts-in-Negr.ensures)
    ∙ rw c.reg-in-Negr.ensures (at_instruction _ _ _ c.in-Negr.is)

pub returns-in-Orr : goal.returns-in-Orr
unfolding execute_of
returns-in-Orr c =
    told (ap done c.sets-in-Orr.ensures)
    ∙ rw (c.reg-in-Orr-2.ensures, c.reg-in-Orr.ensures) (at_instruction _ _ _ c.in-Orr.is)

pub returns-in-Mul : goal.returns-in-Mul
unfolding execute_of
returns-in-Mul c =
    told (ap done c.sets-in-Mul.ensures)
    ∙ rw (c.low_product.ensures, c.reg-in-Mul-2.ensures, c.reg-in-Mul.ensures)
    (at_instruction _ _ _ c.in-Mul.is)

pub returns-in-Mvnr : goal.returns-in-Mvnr
unfolding execute_of
returns-in-Mvnr c =
    told (ap done c.sets-in-Mvnr.ensures)
    ∙ rw (c.complement.ensures, c.reg-in-Mvnr.ensures)
    (at_instruction _ _ _ c.in-Mvnr.is)

pub returns-in-Str : goal.returns-in-Str
unfolding execute_of
returns-in-Str c =
    c.store-in-Str.ensures
    ∙ rw (c.add-in-Str.ensures, c.reg-in-Str-2.ensures, c.reg-in-Str.ensures)
    (at_instruction _ _ _ c.in-Str.is)

pub returns-in-Ldr : goal.returns-in-Ldr
unfolding execute_of
returns-in-Ldr c =
    c.load-in-Ldr.ensures
    ∙ rw (c.add-in-Ldr.ensures, c.reg-in-Ldr-2.ensures, c.reg-in-Ldr.ensures)
    (at_instruction _ _ _ c.in-Ldr.is)

pub returns-in-Stri : goal.returns-in-Stri
unfolding execute_of
returns-in-Stri c =
    c.store-in-Stri.ensures
    ∙ rw (c.add-in-Stri.ensures, c.times4-in-Stri.ensures, c.reg-in-Stri.ensures)
    (at_instruction _ _ _ c.in-Stri.is)

pub returns-in-Ldri : goal.returns-in-Ldri
unfolding execute_of
returns-in-Ldri c =
    c.load-in-Ldri.ensures
    ∙ rw (c.add-in-Ldri.ensures, c.times4-in-Ldri.ensures, c.reg-in-Ldri.ensures)
    (at_instruction _ _ _ c.in-Ldri.is)

pub returns-in-Incsp : goal.returns-in-Incsp
unfolding execute_of
returns-in-Incsp c =
    told (ap done c.moves.ensures)
    ∙ rw (c.add-in-Incsp.ensures, c.times4-in-Incsp.ensures)
    (at_instruction _ _ _ c.in-Incsp.is)

pub returns-in-Decsp : goal.returns-in-Decsp
unfolding execute_of
returns-in-Decsp c =
    told (ap done c.moves-in-Decsp.ensures)
    ∙ rw (c.sub.ensures, c.times4-in-Decsp.ensures)
    (at_instruction _ _ _ c.in-Decsp.is)

pub returns-in-Svc : goal.returns-in-Svc
unfolding execute_of
returns-in-Svc c = told c.ended.ensures ∙ at_instruction _ _ _ c.in-Svc.is

pub returns-else-core : goal.returns-else-core
unfolding execute_of
returns-else-core c =
    told (ap done (c.next.ensures ∙ stays _ _ _ c.if-core.false))
    ∙ at_instruction _ _ _ c.in-Beq.is

pub returns-else-not-core : goal.returns-else-not-core
unfolding execute_of
returns-else-not-core c =
    told (ap done (c.next-in-Bne.ensures ∙ stays _ _ _ c.if-not-core.false))
    ∙ at_instruction _ _ _ c.in-Bne.is

pub returns-else-not-less : goal.returns-else-not-less
unfolding execute_of
returns-else-not-less c =
    told (ap done (c.next-in-Bge.ensures ∙ stays _ _ _ (ap not (sym c.less.ensures ∙ c.if-not-less.false))))
    ∙ at_instruction _ _ _ c.in-Bge.is

pub returns-else-less : goal.returns-else-less
unfolding execute_of
returns-else-less c =
    told (ap done (c.next-in-Blt.ensures ∙ stays _ _ _ (sym c.less-in-Blt.ensures ∙ c.if-less.false)))
    ∙ at_instruction _ _ _ c.in-Blt.is

pub returns-in-Bu : goal.returns-in-Bu
unfolding execute_of
returns-in-Bu c = told (ap done c.jump-in-Bu.ensures) ∙ at_instruction _ _ _ c.in-Bu.is

pub returns-in-Bl : goal.returns-in-Bl
unfolding execute_of
returns-in-Bl c = told (ap done c.link.ensures) ∙ at_instruction _ _ _ c.in-Bl.is
