-- Which flags an instruction sets, and what it is that the others stay. Definitions.
use Rattle.std.specs.Prelude.{◌≡◌}
use Rattle.arm_encoding.specs.declared.Instr.{Instr}
use Rattle.arm_encoding.specs.declared.Instr.TheVariants.{Shli, Shri, Ashri, Addr, Subr, Movi, Addi, Subi, Ldrpci, Strspi, Ldrspi, Addpci, Addspi, Andr, Xorr, Shl, Shr, Negr, Orr, Mul}
use Rattle.arm_encoding.specs.declared.Instr.TheVariants.{Mvnr, Str, Ldr}
use Rattle.arm_encoding.specs.declared.Instr.TheVariants.{Stri, Ldri, Incsp, Decsp, Svc, Beq, Bne, Bge, Blt, Bu, Bl}
use Rattle.arm_state.specs.Effects.{Effect}
use Rattle.arm_state.specs.declared.Flags.{Flags}

-- what an instruction sets: no flag, N and Z, N, Z and C, or all
pub data Sets : Type 0 where
  none : Sets
  nz : Sets
  nzc : Sets
  all : Sets

abbrev pub sets_of : Instr → Sets
sets_of (Shli n l d) = nzc
sets_of (Shri n l d) = nzc
sets_of (Ashri n l d) = nzc
sets_of (Addr r l d) = all
sets_of (Subr r l d) = all
sets_of (Movi d u) = nz
sets_of (Addi d u) = all
sets_of (Subi d u) = all
sets_of (Ldrpci d u) = none
sets_of (Strspi d u) = none
sets_of (Ldrspi d u) = none
sets_of (Addpci d u) = none
sets_of (Addspi d u) = none
sets_of (Andr r d) = nz
sets_of (Xorr r d) = nz
sets_of (Shl r d) = nzc
sets_of (Shr r d) = nzc
sets_of (Negr r d) = all
sets_of (Orr r d) = nz
sets_of (Mul r d) = nz
sets_of (Mvnr r d) = nz
sets_of (Str i b d) = none
sets_of (Ldr i b d) = none
sets_of (Stri u b d) = none
sets_of (Ldri u b d) = none
sets_of (Incsp u) = none
sets_of (Decsp u) = none
sets_of (Svc u) = none
sets_of (Beq k) = none
sets_of (Bne k) = none
sets_of (Bge k) = none
sets_of (Blt k) = none
sets_of (Bu k) = none
sets_of (Bl k) = none

-- from flags f to flags g, those that aren't set stay
abbrev pub Kept : Sets → Flags → Flags → Type 0
Kept none f g = g ≡ f
Kept nz f g = (g.c ≡ f.c) × (g.v ≡ f.v)
Kept nzc f g = g.v ≡ f.v
Kept all f g = Unit {0}

abbrev pub flags_after : Effect → Flags
flags_after e = e.after.state.machine.flags
