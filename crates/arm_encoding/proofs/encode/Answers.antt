-- `arm_encoding::encode` meets its contract: each arm is the clause of the definition at the constructor that the match found.
-- Rests on the definitions that its contract cites; assumes nothing.
use Rattle.arm_encoding.specs.Encoding.{Encoded, encode_of}
use mathlib.Core.Path.{◌≡◌, sym, ap, ◌∙◌}
use Rattle.arm_encoding.specs.declared.Instr.{Instr}
use Rattle.arm_encoding.proofs.encode.Goals as goal

given : {i j : Instr} {r : Encoded} → r ≡ encode_of j → i ≡ j → r ≡ encode_of i
given p q = p ∙ sym (ap encode_of q)

pub returns-in-Shli : goal.returns-in-Shli
unfolding encode_of
returns-in-Shli c = given c.three.ensures c.in-Shli.is

pub returns-in-Shri : goal.returns-in-Shri
unfolding encode_of
returns-in-Shri c = given c.shift.ensures c.in-Shri.is

pub returns-in-Ashri : goal.returns-in-Ashri
unfolding encode_of
returns-in-Ashri c = given c.shift-in-Ashri.ensures c.in-Ashri.is

pub returns-in-Addr : goal.returns-in-Addr
unfolding encode_of
returns-in-Addr c = given c.three-in-Addr.ensures c.in-Addr.is

pub returns-in-Subr : goal.returns-in-Subr
unfolding encode_of
returns-in-Subr c = given c.three-in-Subr.ensures c.in-Subr.is

pub returns-in-Movi : goal.returns-in-Movi
unfolding encode_of
returns-in-Movi c = given c.pair.ensures c.in-Movi.is

pub returns-in-Addi : goal.returns-in-Addi
unfolding encode_of
returns-in-Addi c = given c.pair-in-Addi.ensures c.in-Addi.is

pub returns-in-Subi : goal.returns-in-Subi
unfolding encode_of
returns-in-Subi c = given c.pair-in-Subi.ensures c.in-Subi.is

pub returns-in-Ldrpci : goal.returns-in-Ldrpci
unfolding encode_of
returns-in-Ldrpci c = given c.pair-in-Ldrpci.ensures c.in-Ldrpci.is

pub returns-in-Strspi : goal.returns-in-Strspi
unfolding encode_of
returns-in-Strspi c = given c.pair-in-Strspi.ensures c.in-Strspi.is

pub returns-in-Ldrspi : goal.returns-in-Ldrspi
unfolding encode_of
returns-in-Ldrspi c = given c.pair-in-Ldrspi.ensures c.in-Ldrspi.is

pub returns-in-Addpci : goal.returns-in-Addpci
unfolding encode_of
returns-in-Addpci c = given c.pair-in-Addpci.ensures c.in-Addpci.is

pub returns-in-Addspi : goal.returns-in-Addspi
unfolding encode_of
returns-in-Addspi c = given c.pair-in-Addspi.ensures c.in-Addspi.is

pub returns-in-Andr : goal.returns-in-Andr
unfolding encode_of
returns-in-Andr c = given c.pair-in-Andr.ensures c.in-Andr.is

pub returns-in-Xorr : goal.returns-in-Xorr
unfolding encode_of
returns-in-Xorr c = given c.pair-in-Xorr.ensures c.in-Xorr.is

pub returns-in-Shl : goal.returns-in-Shl
unfolding encode_of
returns-in-Shl c = given c.pair-in-Shl.ensures c.in-Shl.is

pub returns-in-Shr : goal.returns-in-Shr
unfolding encode_of
returns-in-Shr c = given c.pair-in-Shr.ensures c.in-Shr.is

pub returns-in-Negr : goal.returns-in-Negr
unfolding encode_of
returns-in-Negr c = given c.pair-in-Negr.ensures c.in-Negr.is

pub returns-in-Orr : goal.returns-in-Orr
unfolding encode_of
returns-in-Orr c = given c.pair-in-Orr.ensures c.in-Orr.is

pub returns-in-Mul : goal.returns-in-Mul
unfolding encode_of
returns-in-Mul c = given c.pair-in-Mul.ensures c.in-Mul.is

pub returns-in-Mvnr : goal.returns-in-Mvnr
unfolding encode_of
returns-in-Mvnr c = given c.pair-in-Mvnr.ensures c.in-Mvnr.is

pub returns-in-Str : goal.returns-in-Str
unfolding encode_of
returns-in-Str c = given c.three-in-Str.ensures c.in-Str.is

pub returns-in-Ldr : goal.returns-in-Ldr
unfolding encode_of
returns-in-Ldr c = given c.three-in-Ldr.ensures c.in-Ldr.is

pub returns-in-Stri : goal.returns-in-Stri
unfolding encode_of
returns-in-Stri c = given c.three-in-Stri.ensures c.in-Stri.is

pub returns-in-Ldri : goal.returns-in-Ldri
unfolding encode_of
returns-in-Ldri c = given c.three-in-Ldri.ensures c.in-Ldri.is

pub returns-in-Incsp : goal.returns-in-Incsp
unfolding encode_of
returns-in-Incsp c = given c.single.ensures c.in-Incsp.is

pub returns-in-Decsp : goal.returns-in-Decsp
unfolding encode_of
returns-in-Decsp c = given c.single-in-Decsp.ensures c.in-Decsp.is

pub returns-in-Svc : goal.returns-in-Svc
unfolding encode_of
returns-in-Svc c = given c.single-in-Svc.ensures c.in-Svc.is

pub returns-in-Beq : goal.returns-in-Beq
unfolding encode_of
returns-in-Beq c = given c.branch-k.ensures c.in-Beq.is

pub returns-in-Bne : goal.returns-in-Bne
unfolding encode_of
returns-in-Bne c = given c.branch-k-in-Bne.ensures c.in-Bne.is

pub returns-in-Bge : goal.returns-in-Bge
unfolding encode_of
returns-in-Bge c = given c.branch-k-in-Bge.ensures c.in-Bge.is

pub returns-in-Blt : goal.returns-in-Blt
unfolding encode_of
returns-in-Blt c = given c.branch-k-in-Blt.ensures c.in-Blt.is

pub returns-in-Bu : goal.returns-in-Bu
unfolding encode_of
returns-in-Bu c = given c.branch-k-in-Bu.ensures c.in-Bu.is

pub returns-in-Bl : goal.returns-in-Bl
unfolding encode_of
returns-in-Bl c = given c.long.ensures c.in-Bl.is
