-- Numbers and back: an instruction comes back from its numbers, a state from its words, and words from their state. Laws; rests on Numbers.
use Rattle.std.specs.Prelude.{◌≡◌, refl, Option, Some, None, List, Bool, true, false, ℕ, zero, suc, ◌+◌, ◌*◌, ◌-◌, ◌/◌, ◌%◌, ◌<◌, length, get_or, set, eqb}
use Rattle.std.proofs.Common.{sym, ap, zero-mul, one-mul, arith}
use Rattle.arm_word.specs.Choice.{pick}
use Rattle.arm_encoding.specs.declared.Instr.{Instr}
use Rattle.arm_encoding.specs.declared.Instr.TheVariants.{Shli, Shri, Ashri, Addr, Subr, Movi, Addi, Subi, Ldrpci, Strspi, Ldrspi, Addpci, Addspi, Andr, Xorr, Shl, Shr, Negr, Orr, Mul}
use Rattle.arm_encoding.specs.declared.Instr.TheVariants.{Mvnr, Str, Ldr}
use Rattle.arm_encoding.specs.declared.Instr.TheVariants.{Stri, Ldri, Incsp, Decsp, Svc, Beq, Bne, Bge, Blt, Bu, Bl}
use Rattle.arm_state.specs.MachineCoreLaws.{elements, elements_are}
use Rattle.arm_state.specs.declared.Machine.{Machine}
use Rattle.gutilamboy_numbers.specs.Numbers.{instructions, instruction_of, instruction_words, decoded_words, apsr_flags, apsr_word, words_of_state, state_of}

-- the instruction of five words
abbrev pub numbered : List ℕ → Option Instr
numbered ws = instruction_of (get_or ws 0 0) (get_or ws 1 0) (get_or ws 2 0) (get_or ws 3 0) (get_or ws 4 0)

pub instruction_back : (i : Instr) → numbered (instruction_words i) ≡ Some i
unfolding instructions instruction_of instruction_words
instruction_back (Shli a b c) = refl
instruction_back (Shri a b c) = refl
instruction_back (Ashri a b c) = refl
instruction_back (Addr a b c) = refl
instruction_back (Subr a b c) = refl
instruction_back (Movi a b) = refl
instruction_back (Addi a b) = refl
instruction_back (Subi a b) = refl
instruction_back (Ldrpci a b) = refl
instruction_back (Strspi a b) = refl
instruction_back (Ldrspi a b) = refl
instruction_back (Addpci a b) = refl
instruction_back (Addspi a b) = refl
instruction_back (Andr a b) = refl
instruction_back (Xorr a b) = refl
instruction_back (Shl a b) = refl
instruction_back (Shr a b) = refl
instruction_back (Negr a b) = refl
instruction_back (Orr a b) = refl
instruction_back (Mul a b) = refl
instruction_back (Mvnr a b) = refl
instruction_back (Str a b c) = refl
instruction_back (Ldr a b c) = refl
instruction_back (Stri a b c) = refl
instruction_back (Ldri a b c) = refl
instruction_back (Incsp a) = refl
instruction_back (Decsp a) = refl
instruction_back (Svc a) = refl
instruction_back (Beq k) = refl
instruction_back (Bne k) = refl
instruction_back (Bge k) = refl
instruction_back (Blt k) = refl
instruction_back (Bu k) = refl
instruction_back (Bl k) = refl

-- and a decoding from its words, none included
pub decoding_back : (d : Option Instr) → numbered (decoded_words d) ≡ d
unfolding instructions instruction_of decoded_words
decoding_back (Some i) = instruction_back i
decoding_back None = refl

-- ── states ──

pub flags_back : (n z c v : Bool) → apsr_flags (apsr_word (record { n = n; z = z; c = c; v = v })) ≡ record { n = n; z = z; c = c; v = v }
flags_back true true true true = refl
flags_back true true true false = refl
flags_back true true false true = refl
flags_back true true false false = refl
flags_back true false true true = refl
flags_back true false true false = refl
flags_back true false false true = refl
flags_back true false false false = refl
flags_back false true true true = refl
flags_back false true true false = refl
flags_back false true false true = refl
flags_back false true false false = refl
flags_back false false true true = refl
flags_back false false true false = refl
flags_back false false false true = refl
flags_back false false false false = refl

-- of an APSR word the four bits come back, and 0 for the others
pub apsr_back : (w : ℕ) → w < 4294967296 → apsr_word (apsr_flags w) ≡ w - w % 268435456
apsr_back w h =
    rw (
      weighed (w / 2147483648 % 2) 2147483648 (omega arith),
      weighed (w / 1073741824 % 2) 1073741824 (omega arith),
      weighed (w / 536870912 % 2) 536870912 (omega arith),
      weighed (w / 268435456 % 2) 268435456 (omega arith),
    )
    (together w (w / 268435456) (w / 536870912) (w / 1073741824) _ _ _ _ _ (omega arith) (omega arith) (omega arith) (omega arith))
  where
    -- four bits above the rest
    together : (w q p o n z c v r : ℕ) → w ≡ q * 268435456 + r → q ≡ 2 * p + v → p ≡ 2 * o + c → o ≡ 2 * n + z
        → n * 2147483648 + z * 1073741824 + c * 536870912 + v * 268435456 ≡ w - r
    together w q p o n z c v r e f g i = omega arith

    -- a bit by its weight
    weighed : (b k : ℕ) → b < 2 → pick (eqb b 1) k 0 ≡ b * k
    weighed zero k h = sym (zero-mul k)
    weighed (suc zero) k h = sym (one-mul k)
    weighed (suc (suc b)) k h = absurd (omega arith)

pub words_back : (s : List ℕ) → length s ≡ 12 → get_or s 11 0 < 4294967296 → words_of_state (state_of s) ≡ set s 11 (get_or s 11 0 - get_or s 11 0 % 268435456)
unfolding elements
words_back s e h =
    let w = get_or s 11 0 in
    rw (apsr_back w h) (sym (ap (λ (l : List ℕ). set l 11 (w - w % 268435456)) (elements_are 12 0 s (omega arith))))

pub state_back : (m : Machine) → length m.regs ≡ 8 → state_of (words_of_state m) ≡ m
unfolding elements
state_back m e =
    rw (flags_back m.flags.n m.flags.z m.flags.c m.flags.v)
    (ap (λ (r : List ℕ). record { regs = r; sp = m.sp; lr = m.lr; pc = m.pc; flags = m.flags }) (sym (elements_are 8 0 m.regs (omega arith))))
