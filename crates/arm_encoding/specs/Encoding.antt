-- The halfwords of the instructions: document 01's hex table, written once as forms, and encoding and decoding by it. Definitions.
-- In every form the fields are, from the highest: a below `high`, b below `middle`, c below `low`; a form's halfwords are base + (a * middle + b) * low + c.
use Rattle.std.specs.Prelude.{ℕ, ◌+◌, ◌-◌, ◌*◌, ◌/◌, ◌%◌, List, [], ◌∷◌, Bool, false, Option, Some, None, ltb, leb, eqb}
use Rattle.arm_word.specs.Choice.{pick}
use Rattle.arm_encoding.specs.declared.Instr.{Instr}
use Rattle.arm_encoding.specs.declared.Instr.TheVariants.{Shli, Shri, Ashri, Addr, Subr, Movi, Addi, Subi, Ldrpci, Strspi, Ldrspi, Addpci, Addspi, Andr, Xorr, Shl, Shr, Negr, Orr}
use Rattle.arm_encoding.specs.declared.Instr.TheVariants.{Mul, Mvnr, Str}
use Rattle.arm_encoding.specs.declared.Instr.TheVariants.{Ldr, Stri, Ldri, Incsp, Decsp, Svc, Beq, Bne, Bge, Blt, Bu, Bl}
use Rattle.arm_encoding.specs.declared.Halfwords.{Halfwords}
use Rattle.arm_encoding.specs.declared.Halfwords.TheVariants.{One, Two}

pub record Form : Type 0 where
  pub base : ℕ
  pub high : ℕ
  pub middle : ℕ
  pub low : ℕ

abbrev pub form : ℕ → ℕ → ℕ → ℕ → Form
form base high middle low = record { base = base; high = high; middle = middle; low = low }

-- ── the table ──

-- The machine: "+64n +8l +d: SHLI 0000 (n 0 to 31); SHRI 0800, ASHRI 1000 (n 1 to 32, 32 stored as 0)"
abbrev pub SHLI : Form
SHLI = form 0x0000 32 8 8

abbrev pub SHRI : Form
SHRI = form 0x0800 32 8 8

abbrev pub ASHRI : Form
ASHRI = form 0x1000 32 8 8

-- "+64r +8l +d: ADDR 1800, SUBR 1A00"
abbrev pub ADDR : Form
ADDR = form 0x1800 8 8 8

abbrev pub SUBR : Form
SUBR = form 0x1A00 8 8 8

-- "+256d +u8: MOVI 2000, ADDI 3000, SUBI 3800, LDRPCI 4800, STRSPI 9000, LDRSPI 9800, ADDPCI A000, ADDSPI A800"
abbrev pub MOVI : Form
MOVI = form 0x2000 1 8 256

abbrev pub ADDI : Form
ADDI = form 0x3000 1 8 256

abbrev pub SUBI : Form
SUBI = form 0x3800 1 8 256

abbrev pub LDRPCI : Form
LDRPCI = form 0x4800 1 8 256

abbrev pub STRSPI : Form
STRSPI = form 0x9000 1 8 256

abbrev pub LDRSPI : Form
LDRSPI = form 0x9800 1 8 256

abbrev pub ADDPCI : Form
ADDPCI = form 0xA000 1 8 256

abbrev pub ADDSPI : Form
ADDSPI = form 0xA800 1 8 256

-- "+8r +d: ANDR 4000, XORR 4040, SHL 4080, SHR 40C0, NEGR 4240, ORR 4300, MUL 4340, MVNR 43C0"
abbrev pub ANDR : Form
ANDR = form 0x4000 1 8 8

abbrev pub XORR : Form
XORR = form 0x4040 1 8 8

abbrev pub SHL : Form
SHL = form 0x4080 1 8 8

abbrev pub SHR : Form
SHR = form 0x40C0 1 8 8

abbrev pub NEGR : Form
NEGR = form 0x4240 1 8 8

abbrev pub ORR : Form
ORR = form 0x4300 1 8 8

abbrev pub MUL : Form
MUL = form 0x4340 1 8 8

abbrev pub MVNR : Form
MVNR = form 0x43C0 1 8 8

-- "+64i +8b +d: STR 5000, LDR 5800 (byte offset i); +64u5 +8b +d: STRI 6000, LDRI 6800 (offset 4u5)"
abbrev pub STR : Form
STR = form 0x5000 8 8 8

abbrev pub LDR : Form
LDR = form 0x5800 8 8 8

abbrev pub STRI : Form
STRI = form 0x6000 32 8 8

abbrev pub LDRI : Form
LDRI = form 0x6800 32 8 8

-- "INCSP B000, DECSP B080 (+u7 ...). SVC DF00 +u8"
abbrev pub INCSP : Form
INCSP = form 0xB000 1 1 128

abbrev pub DECSP : Form
DECSP = form 0xB080 1 1 128

abbrev pub SVC : Form
SVC = form 0xDF00 1 1 256

-- "BEQ D000, BNE D100, BGE DA00, BLT DB00 (8 bits), BU E000 (11 bits)"
abbrev pub BEQ : Form
BEQ = form 0xD000 1 1 256

abbrev pub BNE : Form
BNE = form 0xD100 1 1 256

abbrev pub BGE : Form
BGE = form 0xDA00 1 1 256

abbrev pub BLT : Form
BLT = form 0xDB00 1 1 256

abbrev pub BU : Form
BU = form 0xE000 1 1 2048

-- ── fields ──

-- "n 1 to 32, 32 stored as 0": the two are swapped, so that a count of 0 is out of range
unfoldable pub swap32 : ℕ → ℕ
swap32 n = pick (eqb n 0) 32 (pick (eqb n 32) 0 n)

-- "Distances in halfwords": a word read as signed from -half to half - 1, as a field below 2 half; any other becomes 2 half, out of range
unfoldable pub narrow : ℕ → ℕ → ℕ
narrow half d = pick (ltb d half) d (pick (ltb d (4294967296 - half)) (2 * half) (d - (4294967296 - 2 * half)))

-- and back
unfoldable pub widen : ℕ → ℕ → ℕ
widen half f = pick (ltb f half) f (f + (4294967296 - 2 * half))

-- ── encoding ──

-- an encoding in numbers: its status, how many halfwords there are, and these
pub record Encoded : Type 0 where
  pub status : ℕ
  pub count : ℕ
  pub first : ℕ
  pub second : ℕ

-- Faults: "Encoding a field out of range: 35, count 0 and both halfwords 0"
abbrev pub refused : Encoded
refused = record { status = 35; count = 0; first = 0; second = 0 }

abbrev pub one : ℕ → Encoded
one h = record { status = 0; count = 1; first = h; second = 0 }

abbrev pub two : ℕ → ℕ → Encoded
two h k = record { status = 0; count = 2; first = h; second = k }

-- the code's halfwords as that: none where the encoding is refused
abbrev pub encoded : Option Halfwords → Encoded
encoded None = refused
encoded (Some (One h)) = one h
encoded (Some (Two h k)) = two h k

-- the encoding that halfwords are: one, and two from F000 on
abbrev pub whole : ℕ → ℕ → Encoded
whole h s = pick (ltb h 0xF000) (one h) (two h s)

-- the halfword of a form with these fields
unfoldable pub put : Form → ℕ → ℕ → ℕ → Encoded
put f a b c =
    pick (ltb a f.high)
    (pick (ltb b f.middle)
    (pick (ltb c f.low) (one (f.base + ((a * f.middle + b) * f.low + c))) refused)
    refused)
    refused

-- "BL: F000 + high 11, then F800 + low 11 bits"; "BL reaches -2,097,152 to 2,097,151"
unfoldable pub put_long : ℕ → Encoded
put_long f = pick (ltb f 4194304) (two (0xF000 + f / 2048) (0xF800 + f % 2048)) refused

unfoldable pub encode_of : Instr → Encoded
encode_of (Shli n l d) = put SHLI n l d
encode_of (Shri n l d) = put SHRI (swap32 n) l d
encode_of (Ashri n l d) = put ASHRI (swap32 n) l d
encode_of (Addr r l d) = put ADDR r l d
encode_of (Subr r l d) = put SUBR r l d
encode_of (Movi d u) = put MOVI 0 d u
encode_of (Addi d u) = put ADDI 0 d u
encode_of (Subi d u) = put SUBI 0 d u
encode_of (Ldrpci d u) = put LDRPCI 0 d u
encode_of (Strspi d u) = put STRSPI 0 d u
encode_of (Ldrspi d u) = put LDRSPI 0 d u
encode_of (Addpci d u) = put ADDPCI 0 d u
encode_of (Addspi d u) = put ADDSPI 0 d u
encode_of (Andr r d) = put ANDR 0 r d
encode_of (Xorr r d) = put XORR 0 r d
encode_of (Shl r d) = put SHL 0 r d
encode_of (Shr r d) = put SHR 0 r d
encode_of (Negr r d) = put NEGR 0 r d
encode_of (Orr r d) = put ORR 0 r d
encode_of (Mul r d) = put MUL 0 r d
encode_of (Mvnr r d) = put MVNR 0 r d
encode_of (Str i b d) = put STR i b d
encode_of (Ldr i b d) = put LDR i b d
encode_of (Stri u b d) = put STRI u b d
encode_of (Ldri u b d) = put LDRI u b d
encode_of (Incsp u) = put INCSP 0 0 u
encode_of (Decsp u) = put DECSP 0 0 u
encode_of (Svc u) = put SVC 0 0 u
encode_of (Beq k) = put BEQ 0 0 (narrow 128 k)
encode_of (Bne k) = put BNE 0 0 (narrow 128 k)
encode_of (Bge k) = put BGE 0 0 (narrow 128 k)
encode_of (Blt k) = put BLT 0 0 (narrow 128 k)
encode_of (Bu k) = put BU 0 0 (narrow 1024 k)
encode_of (Bl k) = put_long (narrow 2097152 k)

-- ── decoding ──

-- a form and the instruction of its fields
pub record Row : Type 0 where
  pub shape : Form
  pub make : ℕ → ℕ → ℕ → Instr

abbrev pub row : Form → (ℕ → ℕ → ℕ → Instr) → Row
row f make = record { shape = f; make = make }

unfoldable pub table : List Row
table =
    row SHLI Shli
    ∷ row SHRI (λ n l d. Shri (swap32 n) l d)
    ∷ row ASHRI (λ n l d. Ashri (swap32 n) l d)
    ∷ row ADDR Addr
    ∷ row SUBR Subr
    ∷ row MOVI (λ _ d u. Movi d u)
    ∷ row ADDI (λ _ d u. Addi d u)
    ∷ row SUBI (λ _ d u. Subi d u)
    ∷ row ANDR (λ _ r d. Andr r d)
    ∷ row XORR (λ _ r d. Xorr r d)
    ∷ row SHL (λ _ r d. Shl r d)
    ∷ row SHR (λ _ r d. Shr r d)
    ∷ row NEGR (λ _ r d. Negr r d)
    ∷ row ORR (λ _ r d. Orr r d)
    ∷ row MUL (λ _ r d. Mul r d)
    ∷ row MVNR (λ _ r d. Mvnr r d)
    ∷ row LDRPCI (λ _ d u. Ldrpci d u)
    ∷ row STR Str
    ∷ row LDR Ldr
    ∷ row STRI Stri
    ∷ row LDRI Ldri
    ∷ row STRSPI (λ _ d u. Strspi d u)
    ∷ row LDRSPI (λ _ d u. Ldrspi d u)
    ∷ row ADDPCI (λ _ d u. Addpci d u)
    ∷ row ADDSPI (λ _ d u. Addspi d u)
    ∷ row INCSP (λ _ _ u. Incsp u)
    ∷ row DECSP (λ _ _ u. Decsp u)
    ∷ row BEQ (λ _ _ k. Beq (widen 128 k))
    ∷ row BNE (λ _ _ k. Bne (widen 128 k))
    ∷ row BGE (λ _ _ k. Bge (widen 128 k))
    ∷ row BLT (λ _ _ k. Blt (widen 128 k))
    ∷ row SVC (λ _ _ u. Svc u)
    ∷ row BU (λ _ _ k. Bu (widen 1024 k))
    ∷ []

-- one past the form's last halfword
abbrev pub end : Form → ℕ
end f = f.base + f.high * f.middle * f.low

abbrev pub within : Form → ℕ → Bool
within f h = pick (leb f.base h) (ltb h (end f)) false

-- the instruction of a halfword of the row's form: every form starts at a multiple of its length, so the fields are digits of the halfword itself
abbrev pub cut : Row → ℕ → Instr
cut r h = r.make (h / (r.shape.middle * r.shape.low) % r.shape.high) (h / r.shape.low % r.shape.middle) (h % r.shape.low)

-- the first row that has the halfword
unfoldable pub find : List Row → ℕ → Option Instr
find [] h = None
find (r ∷ rows) h = pick (within r.shape h) (Some (cut r h)) (find rows h)

-- a first halfword, and the one after it, which matters only for F000 to F7FF: with F800 to FFFF after it that is BL
unfoldable pub decode_of : ℕ → ℕ → Option Instr
decode_of h k =
    pick (ltb h 0xF000) (find table h)
    (pick (ltb h 0xF800)
    (pick (ltb k 0xF800) None (Some (Bl (widen 2097152 ((h - 0xF000) * 2048 + (k - 0xF800))))))
    None)
