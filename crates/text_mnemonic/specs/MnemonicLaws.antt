-- The text of an instruction has at most 42 bytes. Laws; rests on Mnemonic.
-- Assumes nothing.
use Rattle.std.specs.Prelude.{List, ℕ, ◌+◌, ◌*◌, ◌≤◌, length}
use Rattle.std.proofs.Common.{arith, length-append}
use Rattle.arm_word.specs.Ascii.{ascii}
use Rattle.text_lines.specs.LineLaws.{length_digits}
use Rattle.arm_encoding.specs.declared.Instr.{Instr}
use Rattle.arm_encoding.specs.declared.Instr.TheVariants.{Shli, Shri, Ashri, Addr, Subr, Movi, Addi, Subi, Ldrpci, Strspi, Ldrspi, Addpci, Addspi, Andr, Xorr, Shl, Shr, Negr, Orr, Mul}
use Rattle.arm_encoding.specs.declared.Instr.TheVariants.{Mvnr, Str, Ldr}
use Rattle.arm_encoding.specs.declared.Instr.TheVariants.{Stri, Ldri, Incsp, Decsp, Svc, Beq, Bne, Bge, Blt, Bu, Bl}
use Rattle.text_mnemonic.specs.Mnemonic.{alone, immediate, pair, offset, triple, branch, instruction}

length_alone : (name : List ℕ) (n : ℕ) → length (alone name n) ≤ length name + 10
length_alone name n = simp length-append (omega (arith, length_digits 9 n))

length_immediate : (name : List ℕ) (d n : ℕ) → length (immediate name d n) ≤ length name + 22
length_immediate name d n = simp length-append (omega (arith, length_digits 9 d, length_digits 9 n))

length_pair : (name : List ℕ) (d r : ℕ) → length (pair name d r) ≤ length name + 23
length_pair name d r = simp length-append (omega (arith, length_digits 9 d, length_digits 9 r))

length_offset : (name : List ℕ) (d r n : ℕ) → length (offset name d r n) ≤ length name + 34
length_offset name d r n = simp length-append (omega (arith, length_digits 9 d, length_digits 9 r, length_digits 9 n))

length_triple : (name : List ℕ) (d l r : ℕ) → length (triple name d l r) ≤ length name + 35
length_triple name d l r = simp length-append (omega (arith, length_digits 9 d, length_digits 9 l, length_digits 9 r))

length_branch : (name : List ℕ) (at k : ℕ) → length (branch name at k) ≤ length name + 4
length_branch name at k = simp length-append (omega arith)

pub length_instruction : (at : ℕ) (i : Instr) → length (instruction at i) ≤ 42
unfolding instruction
length_instruction at (Shli n l d) = omega (arith, length_offset (ascii "SHLI ") d l n)
length_instruction at (Shri n l d) = omega (arith, length_offset (ascii "SHRI ") d l n)
length_instruction at (Ashri n l d) = omega (arith, length_offset (ascii "ASHRI ") d l n)
length_instruction at (Addr r l d) = omega (arith, length_triple (ascii "ADDR ") d l r)
length_instruction at (Subr r l d) = omega (arith, length_triple (ascii "SUBR ") d l r)
length_instruction at (Movi d u) = omega (arith, length_immediate (ascii "MOVI ") d u)
length_instruction at (Addi d u) = omega (arith, length_immediate (ascii "ADDI ") d u)
length_instruction at (Subi d u) = omega (arith, length_immediate (ascii "SUBI ") d u)
length_instruction at (Ldrpci d u) = omega (arith, length_immediate (ascii "LDRPCI ") d (4 * u))
length_instruction at (Strspi d u) = omega (arith, length_immediate (ascii "STRSPI ") d (4 * u))
length_instruction at (Ldrspi d u) = omega (arith, length_immediate (ascii "LDRSPI ") d (4 * u))
length_instruction at (Addpci d u) = omega (arith, length_immediate (ascii "ADDPCI ") d (4 * u))
length_instruction at (Addspi d u) = omega (arith, length_immediate (ascii "ADDSPI ") d (4 * u))
length_instruction at (Andr r d) = omega (arith, length_pair (ascii "ANDR ") d r)
length_instruction at (Xorr r d) = omega (arith, length_pair (ascii "XORR ") d r)
length_instruction at (Shl r d) = omega (arith, length_pair (ascii "SHL ") d r)
length_instruction at (Shr r d) = omega (arith, length_pair (ascii "SHR ") d r)
length_instruction at (Negr r d) = omega (arith, length_pair (ascii "NEGR ") d r)
length_instruction at (Orr r d) = omega (arith, length_pair (ascii "ORR ") d r)
length_instruction at (Mul r d) = omega (arith, length_pair (ascii "MUL ") d r)
length_instruction at (Mvnr r d) = omega (arith, length_pair (ascii "MVNR ") d r)
length_instruction at (Str i b d) = omega (arith, length_triple (ascii "STR ") d b i)
length_instruction at (Ldr i b d) = omega (arith, length_triple (ascii "LDR ") d b i)
length_instruction at (Stri u b d) = omega (arith, length_offset (ascii "STRI ") d b (4 * u))
length_instruction at (Ldri u b d) = omega (arith, length_offset (ascii "LDRI ") d b (4 * u))
length_instruction at (Incsp u) = omega (arith, length_alone (ascii "INCSP ") (4 * u))
length_instruction at (Decsp u) = omega (arith, length_alone (ascii "DECSP ") (4 * u))
length_instruction at (Svc u) = omega (arith, length_alone (ascii "SVC ") u)
length_instruction at (Beq k) = omega (arith, length_branch (ascii "BEQ ") at k)
length_instruction at (Bne k) = omega (arith, length_branch (ascii "BNE ") at k)
length_instruction at (Bge k) = omega (arith, length_branch (ascii "BGE ") at k)
length_instruction at (Blt k) = omega (arith, length_branch (ascii "BLT ") at k)
length_instruction at (Bu k) = omega (arith, length_branch (ascii "BU ") at k)
length_instruction at (Bl k) = omega (arith, length_branch (ascii "BL ") at k)
