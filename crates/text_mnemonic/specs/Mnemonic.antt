-- An instruction as text: document 01's mnemonic and the operands. Definitions; rests on lines of text and the instructions.
-- Registers are written r0 to r7, offsets in bytes, and a branch's operand is the address that it goes to.
use Rattle.std.specs.Prelude.{ℕ, ◌*◌, List, ◌++◌}
use Rattle.arm_word.specs.Word.{add}
use Rattle.arm_word.specs.Ascii.{ascii}
use Rattle.text_lines.specs.Text.{hexadecimal, decimal}
use Rattle.arm_encoding.specs.declared.Instr.{Instr}
use Rattle.arm_encoding.specs.declared.Instr.TheVariants.{Shli, Shri, Ashri, Addr, Subr, Movi, Addi, Subi, Ldrpci, Strspi, Ldrspi, Addpci, Addspi, Andr, Xorr, Shl, Shr, Negr, Orr, Mul}
use Rattle.arm_encoding.specs.declared.Instr.TheVariants.{Mvnr, Str, Ldr}
use Rattle.arm_encoding.specs.declared.Instr.TheVariants.{Stri, Ldri, Incsp, Decsp, Svc, Beq, Bne, Bge, Blt, Bu, Bl}

abbrev pub register : ℕ → List ℕ
register r = ascii "r" ++ decimal r

abbrev pub next_register : ℕ → List ℕ
next_register r = ascii "," ++ register r

abbrev pub next_number : ℕ → List ℕ
next_number n = ascii "," ++ decimal n

-- a mnemonic with a space after it, and a number, as `SVC 2`
abbrev pub alone : List ℕ → ℕ → List ℕ
alone name n = name ++ decimal n

abbrev pub single : List ℕ → ℕ → List ℕ
single name d = name ++ register d

-- `MOVI r0,5`
abbrev pub immediate : List ℕ → ℕ → ℕ → List ℕ
immediate name d n = single name d ++ next_number n

-- `NEGR r0,r1`
abbrev pub pair : List ℕ → ℕ → ℕ → List ℕ
pair name d r = single name d ++ next_register r

-- `SHRI r0,r0,31`, and `STRI r0,r7,4` of r0 to r7 with offset 4
abbrev pub offset : List ℕ → ℕ → ℕ → ℕ → List ℕ
offset name d r n = pair name d r ++ next_number n

-- `ADDR r0,r1,r2`
abbrev pub triple : List ℕ → ℕ → ℕ → ℕ → List ℕ
triple name d l r = pair name d l ++ next_register r

-- "Distances in halfwords from address + 4", "All address sums wrap at 32 bits": `BL 000C`
abbrev pub branch : List ℕ → ℕ → ℕ → List ℕ
branch name at k = name ++ hexadecimal (add (add at 4) (add k k))

-- the mnemonic and the operands of an instruction at an address
unfoldable pub instruction : ℕ → Instr → List ℕ
instruction at (Shli n l d) = offset (ascii "SHLI ") d l n
instruction at (Shri n l d) = offset (ascii "SHRI ") d l n
instruction at (Ashri n l d) = offset (ascii "ASHRI ") d l n
instruction at (Addr r l d) = triple (ascii "ADDR ") d l r
instruction at (Subr r l d) = triple (ascii "SUBR ") d l r
instruction at (Movi d u) = immediate (ascii "MOVI ") d u
instruction at (Addi d u) = immediate (ascii "ADDI ") d u
instruction at (Subi d u) = immediate (ascii "SUBI ") d u
instruction at (Ldrpci d u) = immediate (ascii "LDRPCI ") d (4 * u)
instruction at (Strspi d u) = immediate (ascii "STRSPI ") d (4 * u)
instruction at (Ldrspi d u) = immediate (ascii "LDRSPI ") d (4 * u)
instruction at (Addpci d u) = immediate (ascii "ADDPCI ") d (4 * u)
instruction at (Addspi d u) = immediate (ascii "ADDSPI ") d (4 * u)
instruction at (Andr r d) = pair (ascii "ANDR ") d r
instruction at (Xorr r d) = pair (ascii "XORR ") d r
instruction at (Shl r d) = pair (ascii "SHL ") d r
instruction at (Shr r d) = pair (ascii "SHR ") d r
instruction at (Negr r d) = pair (ascii "NEGR ") d r
instruction at (Orr r d) = pair (ascii "ORR ") d r
instruction at (Mul r d) = pair (ascii "MUL ") d r
instruction at (Mvnr r d) = pair (ascii "MVNR ") d r
instruction at (Str i b d) = triple (ascii "STR ") d b i
instruction at (Ldr i b d) = triple (ascii "LDR ") d b i
instruction at (Stri u b d) = offset (ascii "STRI ") d b (4 * u)
instruction at (Ldri u b d) = offset (ascii "LDRI ") d b (4 * u)
instruction at (Incsp u) = alone (ascii "INCSP ") (4 * u)
instruction at (Decsp u) = alone (ascii "DECSP ") (4 * u)
instruction at (Svc u) = alone (ascii "SVC ") u
instruction at (Beq k) = branch (ascii "BEQ ") at k
instruction at (Bne k) = branch (ascii "BNE ") at k
instruction at (Bge k) = branch (ascii "BGE ") at k
instruction at (Blt k) = branch (ascii "BLT ") at k
instruction at (Bu k) = branch (ascii "BU ") at k
instruction at (Bl k) = branch (ascii "BL ") at k
