-- The laws of the code: what was encoded decodes to the instruction, what was decoded encodes to the halfwords, and no halfword has two instructions.
-- Rests on Encoding, Fields and EncodingTable; the two lists `view` and `made` are the only places that go through the instructions one by one.
use Rattle.std.specs.Prelude.{◌≡◌, refl, Bool, true, false, List, [], ◌∷◌, ℕ, zero, suc, ◌+◌, ◌-◌, ◌*◌, ◌/◌, ◌%◌, ◌≤◌, ◌<◌, Some, None, length, get_or, ltb, leb, eqb}
use Rattle.std.proofs.Common.{sym, ap, ap₂, ◌∙◌, mod-lt, le_of_suc-le-suc, not-suc-le-zero, arith, lit<, lit≤, lt-ltb, le-ltb, ltb-true, ltb-false, leb-true, eqb-true}
use Rattle.std.proofs.Math.Arith.{lt-one}
use Rattle.arm_word.specs.Choice.{pick}
use Rattle.arm_word.specs.ChoiceLaws.{by_test, both}
use Rattle.arm_encoding.specs.declared.Instr.{Instr}
use Rattle.arm_encoding.specs.declared.Instr.TheVariants.{Shli, Shri, Ashri, Addr, Subr, Movi, Addi, Subi, Andr, Xorr, Shl, Shr, Negr, Orr, Mul, Mvnr, Ldrpci, Str, Ldr, Stri, Ldri, Strspi}
use Rattle.arm_encoding.specs.declared.Instr.TheVariants.{Ldrspi, Addpci, Addspi, Incsp, Decsp, Beq, Bne, Bge, Blt, Svc, Bu, Bl}
use Rattle.arm_encoding.specs.Encoding.{Encoded, whole, SHLI, SHRI, ASHRI, ADDR, SUBR, MOVI, ADDI, SUBI, ANDR, XORR, SHL, SHR, NEGR, ORR, MUL, MVNR, LDRPCI, STR, LDR, STRI, LDRI, STRSPI, LDRSPI, ADDPCI}
use Rattle.arm_encoding.specs.Encoding.{ADDSPI, INCSP, DECSP, BEQ, BNE, BGE, BLT, SVC, BU, Form, form, put, put_long, one, two, refused, swap32, narrow, widen, Row, row, end, cut}
use Rattle.arm_encoding.specs.Encoding.{within, find, table}
use Rattle.arm_encoding.specs.Encoding.{encode_of, decode_of}
use Rattle.arm_encoding.specs.Fields.{packed_lt, low_digit, middle_digit, high_digit, repack, put_one, put_cases, swap32_swap32, widen_narrow, narrow_widen}
use Rattle.arm_encoding.specs.EncodingTable.{at, row_hit}

-- ── the forms ──

abbrev size : Form → ℕ
size f = f.high * f.middle * f.low

-- a form starts at a multiple of its length, ends where BL's halfwords begin, and no field is empty
pub record Sound (f : Form) : Type 0 where
  pub multiple : f.base ≡ f.base / size f * size f
  pub below : end f ≤ 0xF000
  pub some_high : 0 < f.high
  pub some_middle : 0 < f.middle
  pub some_low : 0 < f.low

abbrev sound : Form → Bool
sound f = pick (eqb f.base (f.base / size f * size f)) (pick (leb (end f) 0xF000) (pick (ltb 0 f.high) (pick (ltb 0 f.middle) (ltb 0 f.low) false) false) false) false

sound_is : (f : Form) → sound f ≡ true → Sound f
sound_is f e =
    let a = both (eqb f.base (f.base / size f * size f)) _ e in
    let b = both (leb (end f) 0xF000) _ a.1 in
    let c = both (ltb 0 f.high) _ b.1 in
    let d = both (ltb 0 f.middle) (ltb 0 f.low) c.1 in
    record { multiple = eqb-true _ _ a.0; below = leb-true _ _ b.0; some_high = ltb-true _ _ c.0; some_middle = ltb-true _ _ d.0; some_low = ltb-true _ _ d.1 }

-- every form of a table, in one computed test
unfoldable all_sound : List Row → Bool
all_sound [] = true
all_sound (r ∷ rows) = pick (sound r.shape) (all_sound rows) false

all_sound_at : (t : List Row) (d : Row) (k : ℕ) → all_sound t ≡ true → k < length t → Sound (get_or t k d).shape
unfolding all_sound
all_sound_at [] d k o p = absurd (not-suc-le-zero p)
all_sound_at (r ∷ rows) d zero o p = sound_is r.shape (both (sound r.shape) (all_sound rows) o).0
all_sound_at (r ∷ rows) d (suc k) o p = all_sound_at rows d k (both (sound r.shape) (all_sound rows) o).1 (le_of_suc-le-suc p)

pub sound_at : (k : ℕ) → k < 33 → Sound (at k).shape
unfolding table all_sound
sound_at k h = all_sound_at table (row (form 0 1 1 1) Shli) k refl h

-- ── an instruction is one halfword of its row, or BL's two ──

pub data View (i : Instr) : Type 0 where
  short : (k a b c : ℕ) → k < 33 → encode_of i ≡ put (at k).shape a b c → (c < (at k).shape.low → (at k).make a b c ≡ i) → View i
  long : (f : ℕ) → encode_of i ≡ put_long f → (f < 4194304 → Bl (widen 2097152 f) ≡ i) → View i

pub view : (i : Instr) → View i
unfolding encode_of table
view (Shli n l d) = short 0 n l d (lit< tt) refl (λ _. refl)
view (Shri n l d) = short 1 (swap32 n) l d (lit< tt) refl (λ _. ap (λ (x : ℕ). Shri x l d) (swap32_swap32 n))
view (Ashri n l d) = short 2 (swap32 n) l d (lit< tt) refl (λ _. ap (λ (x : ℕ). Ashri x l d) (swap32_swap32 n))
view (Addr r l d) = short 3 r l d (lit< tt) refl (λ _. refl)
view (Subr r l d) = short 4 r l d (lit< tt) refl (λ _. refl)
view (Movi d u) = short 5 0 d u (lit< tt) refl (λ _. refl)
view (Addi d u) = short 6 0 d u (lit< tt) refl (λ _. refl)
view (Subi d u) = short 7 0 d u (lit< tt) refl (λ _. refl)
view (Andr r d) = short 8 0 r d (lit< tt) refl (λ _. refl)
view (Xorr r d) = short 9 0 r d (lit< tt) refl (λ _. refl)
view (Shl r d) = short 10 0 r d (lit< tt) refl (λ _. refl)
view (Shr r d) = short 11 0 r d (lit< tt) refl (λ _. refl)
view (Negr r d) = short 12 0 r d (lit< tt) refl (λ _. refl)
view (Orr r d) = short 13 0 r d (lit< tt) refl (λ _. refl)
view (Mul r d) = short 14 0 r d (lit< tt) refl (λ _. refl)
view (Mvnr r d) = short 15 0 r d (lit< tt) refl (λ _. refl)
view (Ldrpci d u) = short 16 0 d u (lit< tt) refl (λ _. refl)
view (Str i b d) = short 17 i b d (lit< tt) refl (λ _. refl)
view (Ldr i b d) = short 18 i b d (lit< tt) refl (λ _. refl)
view (Stri u b d) = short 19 u b d (lit< tt) refl (λ _. refl)
view (Ldri u b d) = short 20 u b d (lit< tt) refl (λ _. refl)
view (Strspi d u) = short 21 0 d u (lit< tt) refl (λ _. refl)
view (Ldrspi d u) = short 22 0 d u (lit< tt) refl (λ _. refl)
view (Addpci d u) = short 23 0 d u (lit< tt) refl (λ _. refl)
view (Addspi d u) = short 24 0 d u (lit< tt) refl (λ _. refl)
view (Incsp u) = short 25 0 0 u (lit< tt) refl (λ _. refl)
view (Decsp u) = short 26 0 0 u (lit< tt) refl (λ _. refl)
view (Beq k) = short 27 0 0 (narrow 128 k) (lit< tt) refl (λ h. ap Beq (widen_narrow 128 k (lit≤ tt) h))
view (Bne k) = short 28 0 0 (narrow 128 k) (lit< tt) refl (λ h. ap Bne (widen_narrow 128 k (lit≤ tt) h))
view (Bge k) = short 29 0 0 (narrow 128 k) (lit< tt) refl (λ h. ap Bge (widen_narrow 128 k (lit≤ tt) h))
view (Blt k) = short 30 0 0 (narrow 128 k) (lit< tt) refl (λ h. ap Blt (widen_narrow 128 k (lit≤ tt) h))
view (Svc u) = short 31 0 0 u (lit< tt) refl (λ _. refl)
view (Bu k) = short 32 0 0 (narrow 1024 k) (lit< tt) refl (λ h. ap Bu (widen_narrow 1024 k (lit≤ tt) h))
view (Bl k) = long (narrow 2097152 k) refl (λ h. ap Bl (widen_narrow 2097152 k (lit≤ tt) h))

pub long_cases : (P : Encoded → Type 0) (f : ℕ) → (f < 4194304 → P (two (0xF000 + f / 2048) (0xF800 + f % 2048))) → P refused → P (put_long f)
unfolding put_long
long_cases P f fits not_fits = by_test (λ t. P (pick t (two (0xF000 + f / 2048) (0xF800 + f % 2048)) refused)) (ltb f 4194304) (λ e. fits (ltb-true f 4194304 e)) (λ _. not_fits)

-- ── decode after encode ──

uncut : (r : Row) (q a b c : ℕ) → a < r.shape.high → b < r.shape.middle → c < r.shape.low → cut r (q * size r.shape + ((a * r.shape.middle + b) * r.shape.low + c)) ≡ r.make a b c
uncut r q a b c ha hb hc =
    let f = r.shape in
    let h = q * size f + ((a * f.middle + b) * f.low + c) in
    ap (λ (x : ℕ). r.make x (h / f.low % f.middle) (h % f.low)) (high_digit q f.high f.middle f.low a b c ha hb hc)
    ∙ ap (λ (x : ℕ). r.make a x (h % f.low)) (middle_digit q f.high f.middle f.low a b c ha hb hc)
    ∙ ap (λ (x : ℕ). r.make a b x) (low_digit q f.high f.middle f.low a b c ha hb hc)

-- a halfword below F000 goes by the table
decode_short : (h k : ℕ) → h < 0xF000 → decode_of h k ≡ find table h
unfolding decode_of
decode_short h k l = rw (lt-ltb h 0xF000 l)

-- two halfwords of BL
decode_long : (f : ℕ) → f < 4194304 → decode_of (0xF000 + f / 2048) (0xF800 + f % 2048) ≡ Some (Bl (widen 2097152 f))
unfolding decode_of
decode_long f h =
    rw (le-ltb (0xF000 + f / 2048) 0xF000 (omega arith), lt-ltb (0xF000 + f / 2048) 0xF800 (omega arith), le-ltb (0xF800 + f % 2048) 0xF800 (omega arith))
    (ap (λ (x : ℕ). Some (Bl (widen 2097152 x))) (omega arith))

-- what a row's form put together is found, and taken apart again
back : (k a b c : ℕ) → k < 33 → a < (at k).shape.high → b < (at k).shape.middle → c < (at k).shape.low
    → decode_of ((at k).shape.base + ((a * (at k).shape.middle + b) * (at k).shape.low + c)) 0 ≡ Some ((at k).make a b c)
back k a b c hk ha hb hc =
    let f = (at k).shape in
    let s = sound_at k hk in
    let q = f.base / size f in
    let x = (a * f.middle + b) * f.low + c in
    let lt = packed_lt q f.high f.middle f.low a b c ha hb hc in
    let below = s.below in
    decode_short (f.base + x) 0 (omega arith)
    ∙ row_hit k (f.base + x) hk (omega arith) (omega arith)
    ∙ ap (λ (z : ℕ). Some (cut (at k) (z + x))) s.multiple
    ∙ ap Some (uncut (at k) q a b c ha hb hc)

pub decode_encode : (i : Instr) → (encode_of i).status ≡ 0 → decode_of (encode_of i).first (encode_of i).second ≡ Some i
decode_encode i = go (view i)
  where
    go : View i → (encode_of i).status ≡ 0 → decode_of (encode_of i).first (encode_of i).second ≡ Some i
    go (short k a b c hk e m) =
        rw e
        (put_cases (at k).shape a b c (λ r. r.status ≡ 0 → decode_of r.first r.second ≡ Some i)
        (λ ha hb hc _. back k a b c hk ha hb hc ∙ ap Some (m hc))
        (λ z. absurd (omega arith)))
    go (long f e m) =
        rw e
        (long_cases (λ r. r.status ≡ 0 → decode_of r.first r.second ≡ Some i) f
        (λ h _. decode_long f h ∙ ap Some (m h))
        (λ z. absurd (omega arith)))

-- ── encode after decode ──

-- the instruction of three fields is put together from them
abbrev Made : Row → Type 0
Made r = (a b c : ℕ) → a < r.shape.high → b < r.shape.middle → c < r.shape.low → encode_of (r.make a b c) ≡ put r.shape a b c

infixr 20 ◌and◌
data AllMade : List Row → Type 0 where
  done : AllMade []
  ◌and◌ : {r : Row} {rows : List Row} → Made r → AllMade rows → AllMade (r ∷ rows)

-- the ways in which an instruction's fields are a form's: all three, a shift's count and two, two, one, a distance
module _ (f : Form) where
  three : (a b c : ℕ) → a < f.high → b < f.middle → c < f.low → put f a b c ≡ put f a b c
  three a b c ha hb hc = refl

  count : (a b c : ℕ) → a < f.high → b < f.middle → c < f.low → put f (swap32 (swap32 a)) b c ≡ put f a b c
  count a b c ha hb hc = rw (swap32_swap32 a)

  pair : (a b c : ℕ) → a < 1 → b < f.middle → c < f.low → put f 0 b c ≡ put f a b c
  pair a b c ha hb hc = rw (lt-one ha)

  single : (a b c : ℕ) → a < 1 → b < 1 → c < f.low → put f 0 0 c ≡ put f a b c
  single a b c ha hb hc = rw (lt-one ha, lt-one hb)

  distance : (half : ℕ) → 2 * half ≤ 4294967296 → f.low ≤ 2 * half → (a b c : ℕ) → a < 1 → b < 1 → c < f.low → put f 0 0 (narrow half (widen half c)) ≡ put f a b c
  distance half hh le a b c ha hb hc = rw (lt-one ha, lt-one hb, narrow_widen half c hh (omega arith))

made : AllMade table
unfolding table encode_of
made =
    three SHLI
    and count SHRI
    and count ASHRI
    and three ADDR
    and three SUBR
    and pair MOVI
    and pair ADDI
    and pair SUBI
    and pair ANDR
    and pair XORR
    and pair SHL
    and pair SHR
    and pair NEGR
    and pair ORR
    and pair MUL
    and pair MVNR
    and pair LDRPCI
    and three STR
    and three LDR
    and three STRI
    and three LDRI
    and pair STRSPI
    and pair LDRSPI
    and pair ADDPCI
    and pair ADDSPI
    and single INCSP
    and single DECSP
    and distance BEQ 128 (lit≤ tt) (lit≤ tt)
    and distance BNE 128 (lit≤ tt) (lit≤ tt)
    and distance BGE 128 (lit≤ tt) (lit≤ tt)
    and distance BLT 128 (lit≤ tt) (lit≤ tt)
    and single SVC
    and distance BU 1024 (lit≤ tt) (lit≤ tt)
    and done

-- a halfword of a sound form is its digits put together
recut : (r : Row) (h : ℕ) → Sound r.shape → Made r → within r.shape h ≡ true → encode_of (cut r h) ≡ one h
recut r h s m w =
    let f = r.shape in
    let q = f.base / size f in
    let v = both (leb f.base h) (ltb h (end f)) w in
    let l = leb-true f.base h v.0 in
    let u = ltb-true h (end f) v.1 in
    let ha = mod-lt (h / (f.middle * f.low)) s.some_high in
    let hb = mod-lt (h / f.low) s.some_middle in
    let hc = mod-lt h s.some_low in
    m (h / (f.middle * f.low) % f.high) (h / f.low % f.middle) (h % f.low) ha hb hc
    ∙ put_one f (h / (f.middle * f.low) % f.high) (h / f.low % f.middle) (h % f.low) ha hb hc
    ∙ ap one (ap (λ (z : ℕ). z + ((h / (f.middle * f.low) % f.high * f.middle + h / f.low % f.middle) * f.low + h % f.low)) s.multiple
    ∙ repack q f.high f.middle f.low h s.some_high s.some_middle s.some_low (rw (← s.multiple) l) (rw (← s.multiple) u))

found : (t : List Row) → all_sound t ≡ true → AllMade t → (h : ℕ) (i : Instr) → find t h ≡ Some i → encode_of i ≡ one h
unfolding find all_sound
found [] o g h i = λ e. absurd (let z : ◌≡◌ {A = ℕ} 0 1 = cc in omega arith)
found (r ∷ rows) o (m and g) h i =
    let s = both (sound r.shape) (all_sound rows) o in
    by_test (λ t. pick t (Some (cut r h)) (find rows h) ≡ Some i → encode_of i ≡ one h) (within r.shape h)
    (λ w e. let i≡ : cut r h ≡ i = cc in ap encode_of (sym i≡) ∙ recut r h (sound_is r.shape s.0) m w)
    (λ w e. found rows s.1 g h i e)

found_in_table : (h : ℕ) (i : Instr) → find table h ≡ Some i → encode_of i ≡ one h
unfolding table all_sound
found_in_table h i = found table refl made h i

-- the cases of a decoding that gave an instruction
pub known_cases : (h s : ℕ) (i : Instr) (P : Type 0) → decode_of h s ≡ Some i
    → (ltb h 0xF000 ≡ true → find table h ≡ Some i → P)
    → (ltb h 0xF000 ≡ false → h < 0xF800 → 0xF800 ≤ s → Bl (widen 2097152 ((h - 0xF000) * 2048 + (s - 0xF800))) ≡ i → P)
    → P
unfolding decode_of
known_cases h s i P d inside bl =
    let x = Some (Bl (widen 2097152 ((h - 0xF000) * 2048 + (s - 0xF800)))) in
    by_test (λ t. pick t (find table h) (pick (ltb h 0xF800) (pick (ltb s 0xF800) None x) None) ≡ Some i → P) (ltb h 0xF000)
    (λ w e. inside w e)
    (λ w. by_test (λ t. pick t (pick (ltb s 0xF800) None x) None ≡ Some i → P) (ltb h 0xF800)
    (λ v. by_test (λ t. pick t None x ≡ Some i → P) (ltb s 0xF800)
    (λ u e. absurd (let z : ◌≡◌ {A = ℕ} 0 1 = cc in omega arith))
    (λ u e. bl w (ltb-true h 0xF800 v) (ltb-false s 0xF800 u) (cc)))
    (λ v e. absurd (let z : ◌≡◌ {A = ℕ} 0 1 = cc in omega arith)))
    d

-- nothing from F800 on decodes
pub known_below : (h s : ℕ) (i : Instr) → decode_of h s ≡ Some i → h < 0xF800
known_below h s i d = known_cases h s i (h < 0xF800) d (λ w _. omega (arith, ltb-true h 0xF000 w)) (λ _ l _ _. l)

pub encode_decode : (h s : ℕ) (i : Instr) → s < 65536 → decode_of h s ≡ Some i → encode_of i ≡ whole h s
unfolding encode_of put_long
encode_decode h s i hs d =
    known_cases h s i (encode_of i ≡ whole h s) d
    (λ w e. rw w (found_in_table h i e))
    (λ w l g i≡.
    let f = (h - 0xF000) * 2048 + (s - 0xF800) in
    let n = ltb-false h 0xF000 w in
    let lt : f < 4194304 = omega arith in
    rw w (ap encode_of (sym i≡) ∙ ap put_long (narrow_widen 2097152 f (lit≤ tt) lt) ∙ rw (lt-ltb f 4194304 lt) (ap₂ two (omega arith) (omega arith))))

-- ── no two instructions of one halfword, no two encodings of one instruction ──

pub decode_once : (h s : ℕ) (i j : Instr) → decode_of h s ≡ Some i → decode_of h s ≡ Some j → i ≡ j
decode_once h s i j p q = cc

pub encode_injective : (i j : Instr) → (encode_of i).status ≡ 0 → encode_of i ≡ encode_of j → i ≡ j
encode_injective i j ok e =
    let p = decode_encode i ok in
    let q = decode_encode j (ap (λ (r : Encoded). r.status) (sym e) ∙ ok) in
    let r : decode_of (encode_of i).first (encode_of i).second ≡ decode_of (encode_of j).first (encode_of j).second = ap (λ (r : Encoded). decode_of r.first r.second) e in
    cc

-- ── what an encoding holds ──

pub second_fits : (i : Instr) → (encode_of i).second < 65536
second_fits i = go (view i)
  where
    go : View i → (encode_of i).second < 65536
    go (short k a b c hk e m) = rw e (put_cases (at k).shape a b c (λ r. r.second < 65536) (λ _ _ _. lit< tt) (lit< tt))
    go (long f e m) = rw e (long_cases (λ r. r.second < 65536) f (λ h. omega arith) (lit< tt))
