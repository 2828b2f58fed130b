-- Instructions, decodings and states as words. Definitions.
use Rattle.std.specs.Prelude.{ℕ, ◌+◌, ◌/◌, ◌%◌, List, [], ◌∷◌, Option, Some, None, get_or, eqb}
use Rattle.arm_word.specs.Choice.{pick}
use Rattle.arm_encoding.specs.declared.Instr.{Instr}
use Rattle.arm_encoding.specs.declared.Instr.TheVariants.{Shli, Shri, Ashri, Addr, Subr, Movi, Addi, Subi, Ldrpci, Strspi, Ldrspi, Addpci, Addspi, Andr, Xorr, Shl, Shr, Negr, Orr, Mul}
use Rattle.arm_encoding.specs.declared.Instr.TheVariants.{Mvnr, Str, Ldr}
use Rattle.arm_encoding.specs.declared.Instr.TheVariants.{Stri, Ldri, Incsp, Decsp, Svc, Beq, Bne, Bge, Blt, Bu, Bl}
use Rattle.arm_encoding.specs.Encoding.{Encoded, encode_of, refused}
use Rattle.arm_state.specs.declared.Flags.{Flags}
use Rattle.arm_state.specs.declared.Machine.{Machine}

-- the instructions by number, from 0: up to three fields, in the order of document 01's codes from the highest, or a distance
unfoldable pub instructions : ℕ → ℕ → ℕ → ℕ → List (Option Instr)
instructions a b c k =
    Some (Shli a b c)
    ∷ Some (Shri a b c)
    ∷ Some (Ashri a b c)
    ∷ Some (Addr a b c)
    ∷ Some (Subr a b c)
    ∷ Some (Movi a b)
    ∷ Some (Addi a b)
    ∷ Some (Subi a b)
    ∷ Some (Ldrpci a b)
    ∷ Some (Strspi a b)
    ∷ Some (Ldrspi a b)
    ∷ Some (Addpci a b)
    ∷ Some (Addspi a b)
    ∷ Some (Andr a b)
    ∷ Some (Xorr a b)
    ∷ Some (Shl a b)
    ∷ Some (Shr a b)
    ∷ Some (Negr a b)
    ∷ Some (Orr a b)
    ∷ Some (Mul a b)
    ∷ Some (Mvnr a b)
    ∷ Some (Str a b c)
    ∷ Some (Ldr a b c)
    ∷ Some (Stri a b c)
    ∷ Some (Ldri a b c)
    ∷ Some (Incsp a)
    ∷ Some (Decsp a)
    ∷ Some (Svc a)
    ∷ Some (Beq k)
    ∷ Some (Bne k)
    ∷ Some (Bge k)
    ∷ Some (Blt k)
    ∷ Some (Bu k)
    ∷ Some (Bl k)
    ∷ []

-- the instruction of a number; from 34 on none
unfoldable pub instruction_of : ℕ → ℕ → ℕ → ℕ → ℕ → Option Instr
instruction_of op a b c k = get_or (instructions a b c k) op None

-- "Encoding a field out of range: 35, count 0 and both halfwords 0", and so is a number that no instruction has
abbrev pub numbered_encoding : Option Instr → Encoded
numbered_encoding (Some i) = encode_of i
numbered_encoding None = refused

-- and back: its number, three fields, its distance
unfoldable pub instruction_words : Instr → List ℕ
instruction_words (Shli a b c) = 0 ∷ a ∷ b ∷ c ∷ 0 ∷ []
instruction_words (Shri a b c) = 1 ∷ a ∷ b ∷ c ∷ 0 ∷ []
instruction_words (Ashri a b c) = 2 ∷ a ∷ b ∷ c ∷ 0 ∷ []
instruction_words (Addr a b c) = 3 ∷ a ∷ b ∷ c ∷ 0 ∷ []
instruction_words (Subr a b c) = 4 ∷ a ∷ b ∷ c ∷ 0 ∷ []
instruction_words (Movi a b) = 5 ∷ a ∷ b ∷ 0 ∷ 0 ∷ []
instruction_words (Addi a b) = 6 ∷ a ∷ b ∷ 0 ∷ 0 ∷ []
instruction_words (Subi a b) = 7 ∷ a ∷ b ∷ 0 ∷ 0 ∷ []
instruction_words (Ldrpci a b) = 8 ∷ a ∷ b ∷ 0 ∷ 0 ∷ []
instruction_words (Strspi a b) = 9 ∷ a ∷ b ∷ 0 ∷ 0 ∷ []
instruction_words (Ldrspi a b) = 10 ∷ a ∷ b ∷ 0 ∷ 0 ∷ []
instruction_words (Addpci a b) = 11 ∷ a ∷ b ∷ 0 ∷ 0 ∷ []
instruction_words (Addspi a b) = 12 ∷ a ∷ b ∷ 0 ∷ 0 ∷ []
instruction_words (Andr a b) = 13 ∷ a ∷ b ∷ 0 ∷ 0 ∷ []
instruction_words (Xorr a b) = 14 ∷ a ∷ b ∷ 0 ∷ 0 ∷ []
instruction_words (Shl a b) = 15 ∷ a ∷ b ∷ 0 ∷ 0 ∷ []
instruction_words (Shr a b) = 16 ∷ a ∷ b ∷ 0 ∷ 0 ∷ []
instruction_words (Negr a b) = 17 ∷ a ∷ b ∷ 0 ∷ 0 ∷ []
instruction_words (Orr a b) = 18 ∷ a ∷ b ∷ 0 ∷ 0 ∷ []
instruction_words (Mul a b) = 19 ∷ a ∷ b ∷ 0 ∷ 0 ∷ []
instruction_words (Mvnr a b) = 20 ∷ a ∷ b ∷ 0 ∷ 0 ∷ []
instruction_words (Str a b c) = 21 ∷ a ∷ b ∷ c ∷ 0 ∷ []
instruction_words (Ldr a b c) = 22 ∷ a ∷ b ∷ c ∷ 0 ∷ []
instruction_words (Stri a b c) = 23 ∷ a ∷ b ∷ c ∷ 0 ∷ []
instruction_words (Ldri a b c) = 24 ∷ a ∷ b ∷ c ∷ 0 ∷ []
instruction_words (Incsp a) = 25 ∷ a ∷ 0 ∷ 0 ∷ 0 ∷ []
instruction_words (Decsp a) = 26 ∷ a ∷ 0 ∷ 0 ∷ 0 ∷ []
instruction_words (Svc a) = 27 ∷ a ∷ 0 ∷ 0 ∷ 0 ∷ []
instruction_words (Beq k) = 28 ∷ 0 ∷ 0 ∷ 0 ∷ k ∷ []
instruction_words (Bne k) = 29 ∷ 0 ∷ 0 ∷ 0 ∷ k ∷ []
instruction_words (Bge k) = 30 ∷ 0 ∷ 0 ∷ 0 ∷ k ∷ []
instruction_words (Blt k) = 31 ∷ 0 ∷ 0 ∷ 0 ∷ k ∷ []
instruction_words (Bu k) = 32 ∷ 0 ∷ 0 ∷ 0 ∷ k ∷ []
instruction_words (Bl k) = 33 ∷ 0 ∷ 0 ∷ 0 ∷ k ∷ []

-- a decoding: 34 is none
unfoldable pub decoded_words : Option Instr → List ℕ
decoded_words (Some i) = instruction_words i
decoded_words None = 34 ∷ 0 ∷ 0 ∷ 0 ∷ 0 ∷ []

abbrev pub encoded_words : Encoded → List ℕ
encoded_words e = e.status ∷ e.count ∷ e.first ∷ e.second ∷ []

-- ── states; request 2026-02: the flags as the manual's APSR has them, N in bit 31, Z in 30, C in 29, V in 28 ──

-- the bits of a word; all other bits of an APSR word are ignored
abbrev pub apsr_flags : ℕ → Flags
apsr_flags w = record { n = eqb (w / 2147483648 % 2) 1; z = eqb (w / 1073741824 % 2) 1; c = eqb (w / 536870912 % 2) 1; v = eqb (w / 268435456 % 2) 1 }

-- and back; all other bits are 0
abbrev pub apsr_word : Flags → ℕ
apsr_word f = pick f.n 2147483648 0 + pick f.z 1073741824 0 + pick f.c 536870912 0 + pick f.v 268435456 0

-- r0 to r7, sp, lr, pc, APSR
abbrev pub words_of_state : Machine → List ℕ
words_of_state m =
    get_or m.regs 0 0 ∷ get_or m.regs 1 0 ∷ get_or m.regs 2 0 ∷ get_or m.regs 3 0 ∷ get_or m.regs 4 0 ∷ get_or m.regs 5 0 ∷ get_or m.regs 6 0 ∷ get_or m.regs 7 0
    ∷ m.sp ∷ m.lr ∷ m.pc ∷ apsr_word m.flags ∷ []

abbrev pub state_of : List ℕ → Machine
state_of s = record {
  regs = get_or s 0 0 ∷ get_or s 1 0 ∷ get_or s 2 0 ∷ get_or s 3 0 ∷ get_or s 4 0 ∷ get_or s 5 0 ∷ get_or s 6 0 ∷ get_or s 7 0 ∷ [];
  sp = get_or s 8 0;
  lr = get_or s 9 0;
  pc = get_or s 10 0;
  flags = apsr_flags (get_or s 11 0);
}
