-- Places in the code: how many bytes instructions that stand there take, and where jumps lead. Lemmas; they rest on Straight and the encoding's laws.
use Rattle.std.specs.Prelude.{◌≡◌, refl, List, ℕ, ◌+◌, ◌*◌, ◌-◌, ◌/◌, ◌%◌, ◌≤◌, ◌<◌, length}
use Rattle.std.proofs.Common.{◌∙◌}
use native.Mathlib.Omega.{arith}
use Rattle.std.proofs.Math.ListN.{length-append}
use Rattle.arm_word.specs.Word.{add}
use Rattle.arm_encoding.specs.Encoding.{Form, put, put_long, encode_of, swap32, narrow, SHLI, SHRI, ASHRI, ADDR, SUBR, MOVI, ADDI, SUBI, LDRPCI, STRSPI, LDRSPI, ADDPCI, ADDSPI, ANDR, XORR}
use Rattle.arm_encoding.specs.Encoding.{SHL, SHR, NEGR}
use Rattle.arm_encoding.specs.Encoding.{ORR, MUL, MVNR, STR, LDR, STRI, LDRI, INCSP, DECSP, SVC, BEQ, BNE, BGE, BLT, BU}
use Rattle.arm_encoding.specs.Fields.{put_cases}
use Rattle.arm_encoding.specs.EncodingLaws.{long_cases}
use Rattle.arm_encoding.specs.EncodingByteLaws.{length_bytes}
use Rattle.arm_encoding.specs.declared.Instr.{Instr}
use Rattle.arm_encoding.specs.declared.Instr.TheVariants.{Shli, Shri, Ashri, Addr, Subr, Movi, Addi, Subi, Ldrpci, Strspi, Ldrspi, Addpci, Addspi, Andr, Xorr, Shl, Shr, Negr, Orr, Mul}
use Rattle.arm_encoding.specs.declared.Instr.TheVariants.{Mvnr, Str, Ldr}
use Rattle.arm_encoding.specs.declared.Instr.TheVariants.{Stri, Ldri, Incsp, Decsp, Svc, Beq, Bne, Bge, Blt, Bu, Bl}
use Rattle.translate_rules.specs.InstructionBytes.{bytes_of, bytes, size}
use Rattle.theorem_simulation.specs.Abstract.{target, width}
use Rattle.theorem_simulation.specs.Straight.{At, nil, ◌▸◌, advance}

-- ── widths ──

one_halfword : (f : Form) (a b c : ℕ) → (put f a b c).status ≡ 0 → 2 * (put f a b c).count ≡ 2
one_halfword f a b c = put_cases f a b c (λ e. e.status ≡ 0 → 2 * e.count ≡ 2) (λ ha hb hc z. refl) (λ z. absurd (omega arith))

two_halfwords : (f : ℕ) → (put_long f).status ≡ 0 → 2 * (put_long f).count ≡ 4
two_halfwords f = long_cases (λ e. e.status ≡ 0 → 2 * e.count ≡ 4) f (λ h z. refl) (λ z. absurd (omega arith))

width_count : (i : Instr) → (encode_of i).status ≡ 0 → 2 * (encode_of i).count ≡ width i
unfolding encode_of
width_count (Shli n l d) = one_halfword SHLI n l d
width_count (Shri n l d) = one_halfword SHRI (swap32 n) l d
width_count (Ashri n l d) = one_halfword ASHRI (swap32 n) l d
width_count (Addr r l d) = one_halfword ADDR r l d
width_count (Subr r l d) = one_halfword SUBR r l d
width_count (Movi d u) = one_halfword MOVI 0 d u
width_count (Addi d u) = one_halfword ADDI 0 d u
width_count (Subi d u) = one_halfword SUBI 0 d u
width_count (Ldrpci d u) = one_halfword LDRPCI 0 d u
width_count (Strspi d u) = one_halfword STRSPI 0 d u
width_count (Ldrspi d u) = one_halfword LDRSPI 0 d u
width_count (Addpci d u) = one_halfword ADDPCI 0 d u
width_count (Addspi d u) = one_halfword ADDSPI 0 d u
width_count (Andr r d) = one_halfword ANDR 0 r d
width_count (Xorr r d) = one_halfword XORR 0 r d
width_count (Shl r d) = one_halfword SHL 0 r d
width_count (Shr r d) = one_halfword SHR 0 r d
width_count (Negr r d) = one_halfword NEGR 0 r d
width_count (Orr r d) = one_halfword ORR 0 r d
width_count (Mul r d) = one_halfword MUL 0 r d
width_count (Mvnr r d) = one_halfword MVNR 0 r d
width_count (Str i b d) = one_halfword STR i b d
width_count (Ldr i b d) = one_halfword LDR i b d
width_count (Stri u b d) = one_halfword STRI u b d
width_count (Ldri u b d) = one_halfword LDRI u b d
width_count (Incsp u) = one_halfword INCSP 0 0 u
width_count (Decsp u) = one_halfword DECSP 0 0 u
width_count (Svc u) = one_halfword SVC 0 0 u
width_count (Beq k) = one_halfword BEQ 0 0 (narrow 128 k)
width_count (Bne k) = one_halfword BNE 0 0 (narrow 128 k)
width_count (Bge k) = one_halfword BGE 0 0 (narrow 128 k)
width_count (Blt k) = one_halfword BLT 0 0 (narrow 128 k)
width_count (Bu k) = one_halfword BU 0 0 (narrow 1024 k)
width_count (Bl k) = two_halfwords (narrow 2097152 k)

-- an instruction that can be encoded has as many bytes as its width says
pub width_bytes : (i : Instr) → (encode_of i).status ≡ 0 → length (bytes_of i) ≡ width i
unfolding bytes_of
width_bytes i ok = length_bytes i ok ∙ width_count i ok

pub width_even : (i : Instr) → (encode_of i).status ≡ 0 → width i % 2 ≡ 0
width_even i ok = omega (arith, width_count i ok)

-- ── instructions that stand in the code ──

module _ {code : List ℕ} where
  pub advance_size : {pc : ℕ} {is : List Instr} → At code pc is → advance is pc ≡ pc + size is
  unfolding size bytes
  advance_size nil = omega arith
  advance_size (◌▸◌ {i = i} {is = is} f a) = advance_size a ∙ omega (arith, length-append (bytes_of i) (bytes is), width_bytes i f.encodable)

  pub size_even : {pc : ℕ} {is : List Instr} → At code pc is → size is % 2 ≡ 0
  unfolding size bytes
  size_even nil = omega arith
  size_even (◌▸◌ {i = i} {is = is} f a) = omega (arith, size_even a, length-append (bytes_of i) (bytes is), width_bytes i f.encodable, width_even i f.encodable)

  pub size_inside : {pc : ℕ} {is : List Instr} → pc ≤ length code → At code pc is → pc + size is ≤ length code
  unfolding size bytes
  size_inside h nil = omega arith
  size_inside h (◌▸◌ {i = i} {is = is} f a) = omega (arith, size_inside f.inside a, length-append (bytes_of i) (bytes is), width_bytes i f.encodable)

-- ── jumps ──

-- a jump over n bytes ends n bytes after it
pub over_lands : (pc n : ℕ) → pc ≤ 65536 → n ≤ 131072 → n % 2 ≡ 0 → target pc (n / 2) ≡ pc + 4 + n
over_lands pc n h b e =
    let x : add pc 4 ≡ pc + 4 = omega arith in
    let y : add (n / 2) (n / 2) ≡ n = omega arith in
    rw (x, y) (omega arith)

-- a jump back by n bytes ends n bytes before its end
pub back_lands : (pc n q : ℕ) → pc ≤ 65536 → n % 2 ≡ 0 → 0 < n → pc + 4 ≡ q + n → target pc (4294967296 - n / 2) ≡ q
back_lands pc n q h e p s =
    let x : add pc 4 ≡ pc + 4 = omega arith in
    let two : n / 2 + n / 2 ≡ n = omega arith in
    let sum : 4294967296 - n / 2 + (4294967296 - n / 2) ≡ 4294967296 + (4294967296 - n) = omega arith in
    let y : add (4294967296 - n / 2) (4294967296 - n / 2) ≡ 4294967296 - n = rw sum (omega arith) in
    rw (x, y) (omega arith)
