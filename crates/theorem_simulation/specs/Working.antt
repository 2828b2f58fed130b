-- The working of a diadic operator: the code of each leaves in r0 what the operator makes of r0 and r1. Lemmas; they rest on Straight and on meaning's Operators.
use Rattle.std.specs.Prelude.{◌≡◌, refl, Bool, true, false, not, List, [], ◌∷◌, ◌++◌, ℕ, ◌+◌, ◌*◌, ◌-◌, ◌/◌, ◌%◌, ◌^◌, ◌≤◌, ◌<◌, length, set, ltb, eqb}
use Rattle.std.proofs.Common.{sym, ap, ◌∙◌, lt-ltb, le-ltb, eq-eqb, ne_eqb}
use Rattle.std.proofs.Math.Option.{Option, some}
use native.Mathlib.Omega.{arith}
use Rattle.std.proofs.Math.Decide.{dec_lt, ℕ_discrete}
use Rattle.std.specs.Int.Bits.{bit_and, bit_or, bit_xor, and_lt}
use Rattle.std.proofs.lemmas.Nat.{or_lt, xor_lt}
use Rattle.arm_word.specs.Choice.{pick}
use Rattle.arm_word.specs.Word.{modulus, sign, truth, add, sub, mul, complement, shift_left, shift_right, signed_less}
use Rattle.arm_word.specs.CarryLaws.{difference_word}
use Rattle.arm_word.specs.WordLaws.{shift_left_fits, shift_right_fits}
use Rattle.arm_word.specs.Access.{Access}
use Rattle.arm_encoding.specs.declared.Instr.{Instr}
use Rattle.arm_encoding.specs.declared.Instr.TheVariants.{Shri, Addr, Subr, Movi, Subi, Andr, Xorr, Shl, Shr, Negr, Orr, Mul, Mvnr, Beq}
use Rattle.x_program.specs.Tree.{Monadic, negate, invert, Diadic, plus, minus, times, bitwise_and, bitwise_or, bitwise_xor, right, left, equal, unequal, less, at_most, greater, at_least}
use Rattle.x_meaning.specs.Operators.{work_monadic, work_diadic}
use Rattle.translate_rules.specs.Blocks.{less_than, far_shift, diadic_instructions}
use Rattle.theorem_simulation.specs.Abstract.{difference, registers, Control, tests, get, machine, performs, width}
use Rattle.theorem_simulation.specs.Straight.{At, nil, ◌▸◌, Holds, advance, head_at, first_at, rest_at, advance_append, Goes, Path, here, more, go, join, equal_taken, equal_passed}
use Rattle.theorem_simulation.specs.Straight.{unequal_taken}
use Rattle.theorem_simulation.specs.Straight.{unequal_passed}

-- ── what the words come to ──

-- of equal signs, neither is half of all words above the other
near : (x y : ℕ) → x / sign ≡ y / sign → y < x + sign
near x y e = omega arith

wrapped : {x y : ℕ} → x < y → y < x + sign → y < modulus → (x + (modulus - y)) / sign ≡ 1
wrapped a b c = omega arith

small : (x y : ℕ) → x < y + sign → (x - y) / sign ≡ 0
small x y a = omega arith

-- of equal signs the difference's sign decides
less_same : {x y : ℕ} → x < modulus → y < modulus → x / sign ≡ y / sign → sub 0 (sub x y / sign) ≡ truth (signed_less x y)
unfolding signed_less
less_same {x} {y} hx hy e = by (dec_lt ((x + sign) % modulus) ((y + sign) % modulus))
  where
    by : Dec ((x + sign) % modulus < (y + sign) % modulus) → sub 0 (sub x y / sign) ≡ truth (ltb ((x + sign) % modulus) ((y + sign) % modulus))
    by (yes h) =
        let l₀ : y < x + sign = near x y e in
        let l₁ : x < y = omega arith in
        let l₂ : (x + (modulus - y)) % modulus ≡ x + (modulus - y) = omega arith in
        let l₃ : (x + (modulus - y)) / sign ≡ 1 = wrapped l₁ l₀ hy in
        rw (lt-ltb ((x + sign) % modulus) ((y + sign) % modulus) h, l₂, l₃)
    by (no h) =
        let l₀ : x < y + sign = near y x (sym e) in
        let l₁ : y ≤ x = omega arith in
        let l₂ : (x + (modulus - y)) % modulus ≡ x - y = omega arith in
        let l₃ : (x - y) / sign ≡ 0 = small x y l₀ in
        rw (le-ltb ((x + sign) % modulus) ((y + sign) % modulus) (omega arith), l₂, l₃)

-- else the first one's
less_apart : {x y : ℕ} → x < modulus → y < modulus → ¬ (x / sign ≡ y / sign) → sub 0 (x / sign) ≡ truth (signed_less x y)
unfolding signed_less
less_apart {x} {y} hx hy e = by (dec_lt ((x + sign) % modulus) ((y + sign) % modulus))
  where
    by : Dec ((x + sign) % modulus < (y + sign) % modulus) → sub 0 (x / sign) ≡ truth (ltb ((x + sign) % modulus) ((y + sign) % modulus))
    by (yes h) = rw (lt-ltb ((x + sign) % modulus) ((y + sign) % modulus) h) (omega arith)
    by (no h) = rw (le-ltb ((x + sign) % modulus) ((y + sign) % modulus) (omega arith)) (omega arith)

truth_not : (b : Bool) → complement (truth b) ≡ truth (not b)
truth_not true = refl
truth_not false = refl

truth_fits : (b : Bool) → truth b < modulus
truth_fits true = omega arith
truth_fits false = omega arith

equal_value : (b : Bool) → truth b ≡ pick b (difference 0 1) (difference 1 1)
equal_value true = refl
equal_value false = refl

unequal_value : (b : Bool) → truth (not b) ≡ pick b (difference 0 0) (difference 0 1)
unequal_value true = refl
unequal_value false = refl

-- below 32 the low byte of a count is the count
left_value : (x y : ℕ) → shift_left x y ≡ pick (ltb y 32) (shift_left x (y % 256)) (shift_left 0 (0 % 256))
unfolding shift_left
left_value x y = by (dec_lt y 32)
  where
    by : Dec (y < 32) → pick (ltb y 32) (x * 2 ^ y % modulus) 0 ≡ pick (ltb y 32) (pick (ltb (y % 256) 32) (x * 2 ^ (y % 256) % modulus) 0) 0
    by (yes h) = let e : y % 256 ≡ y = omega arith in rw (e, lt-ltb y 32 h)
    by (no h) = rw (le-ltb y 32 (omega arith))

right_value : (x y : ℕ) → shift_right x y ≡ pick (ltb y 32) (shift_right x (y % 256)) (shift_right 0 (0 % 256))
unfolding shift_right
right_value x y = by (dec_lt y 32)
  where
    by : Dec (y < 32) → pick (ltb y 32) (x / 2 ^ y) 0 ≡ pick (ltb y 32) (pick (ltb (y % 256) 32) (x / 2 ^ (y % 256)) 0) 0
    by (yes h) = let e : y % 256 ≡ y = omega arith in rw (e, lt-ltb y 32 h)
    by (no h) = rw (le-ltb y 32 (omega arith))

-- results are words
pub diadic_fits : (o : Diadic) {x y : ℕ} → x < modulus → y < modulus → work_diadic o x y < modulus
diadic_fits plus hx hy = omega arith
diadic_fits minus hx hy = omega arith
diadic_fits times hx hy = omega arith
diadic_fits bitwise_and {x} {y} hx hy = and_lt 32 x y hx hy
diadic_fits bitwise_or {x} {y} hx hy = or_lt 32 x y hx hy
diadic_fits bitwise_xor {x} {y} hx hy = xor_lt 32 x y hx hy
diadic_fits right {x} {y} hx hy = shift_right_fits x y hx
diadic_fits left {x} {y} hx hy = shift_left_fits x y
diadic_fits equal {x} {y} hx hy = truth_fits (eqb x y)
diadic_fits unequal {x} {y} hx hy = truth_fits (not (eqb x y))
diadic_fits less {x} {y} hx hy = truth_fits (signed_less x y)
diadic_fits at_most {x} {y} hx hy = truth_fits (not (signed_less y x))
diadic_fits greater {x} {y} hx hy = truth_fits (signed_less y x)
diadic_fits at_least {x} {y} hx hy = truth_fits (not (signed_less x y))

pub monadic_fits : (o : Monadic) {x : ℕ} → x < modulus → work_monadic o x < modulus
monadic_fits negate hx = omega arith
monadic_fits invert hx = omega arith

-- ── runs ──

-- a register's sign, and a difference, of registers that are known
module _ {array : ℕ → Bool} {code : List ℕ} {pc sp : ℕ} {ct : Control} {mem : List (Option ℕ)} {l : List Access} (r : List ℕ) {d : ℕ} where
  sign_of : (i u : ℕ) → Holds code pc (Shri 31 i d) → get r i ≡ u → Goes array code (machine pc r sp ct mem l) (machine (pc + 2) (set r d (u / sign)) sp (tests (u / sign) ct) mem l)
  unfolding shift_right
  sign_of i u f e = go f (rw e)

  difference_of : (i j u v : ℕ) → Holds code pc (Subr j i d) → get r i ≡ u → get r j ≡ v → v < modulus
      → Goes array code (machine pc r sp ct mem l) (machine (pc + 2) (set r d (sub u v)) sp (tests (sub u v) ct) mem l)
  difference_of i j u v f e e' h = go f (rw (e, e', difference_word u v h))

-- a run of some code that leaves v in r0, and what it likes in r1, r2, r3 and the control
pub record Makes (array : ℕ → Bool) (code : List ℕ) (Q : ℕ → List (Option ℕ) → List Access → Type 0) (sp : ℕ) (mem : List (Option ℕ)) (l : List Access) (is : List Instr)
    (v pc x y c r3 : ℕ) (ct : Control) : Type 0 where
  pub a : ℕ
  pub b : ℕ
  pub d : ℕ
  pub e : ℕ
  pub f : Control
  pub n : ℕ
  pub path : Path array code Q (machine (advance is pc) (registers a b d e) sp f mem l) n (machine pc (registers x y c r3) sp ct mem l)
  pub value : a ≡ v

module _ {array : ℕ → Bool} {code : List ℕ} {Q : ℕ → List (Option ℕ) → List Access → Type 0} {sp : ℕ} {mem : List (Option ℕ)} {l : List Access} (fits : length code ≤ 65536)
    (q : Q sp mem l) {pc x y c r3 : ℕ} {ct : Control} where
  -- register i, which has u, below register j, which has v
  less_run : (i j u v : ℕ) → ((c d : ℕ) → get (registers x y c d) i ≡ u) → ((c d : ℕ) → get (registers x y c d) j ≡ v) → u < modulus → v < modulus
      → At code pc (less_than i j) → Makes array code Q sp mem l (less_than i j) (truth (signed_less u v)) pc x y c r3 ct
  unfolding less_than shift_right
  less_run i j u v gi gj hu hv (f₁ ▸ f₂ ▸ f₃ ▸ f₄ ▸ f₅ ▸ f₆ ▸ f₇ ▸ nil) = by (ℕ_discrete (u / sign) (v / sign))
    where
      by : Dec (u / sign ≡ v / sign) → Makes array code Q sp mem l (less_than i j) (truth (signed_less u v)) pc x y c r3 ct
      by (yes h) =
          let z : difference (u / sign) (v / sign) ≡ 0 = omega arith in
          record {
            a = _;
            b = _;
            d = _;
            e = _;
            f = _;
            n = _;
            value = difference_word 0 (sub u v / sign) (omega arith) ∙ less_same hu hv h;
            path = more q (sign_of (registers x y c r3) i u f₁ (gi c r3))
                (more q (sign_of (registers x y (u / sign) r3) j v f₂ (gj (u / sign) r3)) (more q (go f₃ refl) (more q (unequal_passed fits f₄ z)
                (more q (difference_of (registers x y (u / sign) (difference (u / sign) (v / sign))) i j u v f₅ (gi _ _) (gj _ _) hv) (more q (go f₆ refl) (more q (go f₇ refl) here))))));
          }
      by (no h) =
          let z : 0 < difference (u / sign) (v / sign) = omega arith in
          record {
            a = _;
            b = _;
            d = _;
            e = _;
            f = _;
            n = _;
            value = difference_word 0 (u / sign) (omega arith) ∙ less_apart hu hv h;
            path = more q (sign_of (registers x y c r3) i u f₁ (gi c r3)) (more q (sign_of (registers x y (u / sign) r3) j v f₂ (gj (u / sign) r3)) (more q (go f₃ refl)
                (more q (unequal_taken fits f₄ (pc + 2 + 2 + 2 + 2 + 2 + 2) (omega arith) z (omega arith)) (more q (go f₇ refl) here))));
          }

  one_run : (i : Instr) (v : ℕ) → At code pc (i ∷ []) → performs array i (machine pc (registers x y c r3) sp ct mem l) ≡ some (machine (pc + width i) (registers v y c r3) sp (tests v ct) mem l)
      → Makes array code Q sp mem l (i ∷ []) v pc x y c r3 ct
  one_run i v (f ▸ nil) e = record { a = _; b = _; d = _; e = _; f = _; n = _; value = refl; path = more q (go f e) here }

  -- a shift by a register: v is what the shift makes of the two registers
  shift_run : (i : Instr) (v : ℕ → ℕ → ℕ) → At code pc (far_shift ++ i ∷ [])
      → ((pc x y c : ℕ) (ct : Control) → performs array i (machine pc (registers x y c r3) sp ct mem l) ≡ some (machine (pc + width i) (registers (v x y) y c r3) sp (tests (v x y) ct) mem l))
      → Makes array code Q sp mem l (far_shift ++ i ∷ []) (pick (ltb y 32) (v x y) (v 0 0)) pc x y c r3 ct
  unfolding far_shift shift_right
  shift_run i v (f₁ ▸ f₂ ▸ f₃ ▸ f₄ ▸ f₅ ▸ nil) e = by (dec_lt y 32)
    where
      by : Dec (y < 32) → Makes array code Q sp mem l (far_shift ++ i ∷ []) (pick (ltb y 32) (v x y) (v 0 0)) pc x y c r3 ct
      by (yes h) =
          let z : y / 32 ≡ 0 = omega arith in
          record {
            a = _;
            b = _;
            d = _;
            e = _;
            f = _;
            n = _;
            value = rw (lt-ltb y 32 h) refl;
            path = more q (go f₁ refl) (more q (equal_taken fits f₂ (pc + 2 + 2 + 2 + 2) (omega arith) z (omega arith)) (more q (go f₅ (e _ _ _ _ _)) here));
          }
      by (no h) =
          let z : 0 < y / 32 = omega arith in
          record {
            a = _;
            b = _;
            d = _;
            e = _;
            f = _;
            n = _;
            value = rw (le-ltb y 32 (omega arith)) refl;
            path = more q (go f₁ refl) (more q (equal_passed fits f₂ z) (more q (go f₃ refl) (more q (go f₄ refl) (more q (go f₅ (e _ _ _ _ _)) here))));
          }

  -- r0 - r1 is 0 or not, and one more instruction
  equal_run : (i : Instr) (v : ℕ → ℕ) → x < modulus → y < modulus → At code pc (Subr 1 0 0 ∷ Beq 0 ∷ Movi 0 1 ∷ i ∷ [])
      → ((pc x : ℕ) (ct : Control) → performs array i (machine pc (registers x y c r3) sp ct mem l) ≡ some (machine (pc + width i) (registers (v x) y c r3) sp (tests (v x) ct) mem l))
      → Makes array code Q sp mem l (Subr 1 0 0 ∷ Beq 0 ∷ Movi 0 1 ∷ i ∷ []) (pick (eqb x y) (v 0) (v 1)) pc x y c r3 ct
  equal_run i v hx hy (f₁ ▸ f₂ ▸ f₃ ▸ f₄ ▸ nil) e = by (ℕ_discrete x y)
    where
      by : Dec (x ≡ y) → Makes array code Q sp mem l (Subr 1 0 0 ∷ Beq 0 ∷ Movi 0 1 ∷ i ∷ []) (pick (eqb x y) (v 0) (v 1)) pc x y c r3 ct
      by (yes h) =
          let z : difference x y ≡ 0 = omega arith in
          record {
            a = _;
            b = _;
            d = _;
            e = _;
            f = _;
            n = _;
            value = rw (eq-eqb x y h, z) refl;
            path = more q (go f₁ refl) (more q (equal_taken fits f₂ (pc + 2 + 2 + 2) (omega arith) z (omega arith)) (more q (go f₄ (e _ _ _)) here));
          }
      by (no h) =
          let z : 0 < difference x y = omega arith in
          record {
            a = _;
            b = _;
            d = _;
            e = _;
            f = _;
            n = _;
            value = rw (ne_eqb x y h) refl;
            path = more q (go f₁ refl) (more q (equal_passed fits f₂ z) (more q (go f₃ refl) (more q (go f₄ (e _ _ _)) here)));
          }

  -- one more instruction, on what was made
  then_run : (is : List Instr) (i : Instr) (w : ℕ) (v : ℕ → ℕ) → At code pc (is ++ i ∷ []) → Makes array code Q sp mem l is w pc x y c r3 ct
      → ((pc a b d e : ℕ) (f : Control) → performs array i (machine pc (registers a b d e) sp f mem l) ≡ some (machine (pc + width i) (registers (v a) b d e) sp (tests (v a) f) mem l))
      → Makes array code Q sp mem l (is ++ i ∷ []) (v w) pc x y c r3 ct
  then_run is i w v at m e = record {
    a = v m.a;
    b = m.b;
    d = m.d;
    e = m.e;
    f = tests (v m.a) m.f;
    n = m.n + 1;
    value = ap v m.value;
    path = rw (advance_append is (i ∷ []) pc) (join m.path (more q (go (head_at (rest_at is (i ∷ []) at)) (e _ _ _ _ _ _)) here));
  }

  pub diadic_run : (o : Diadic) → x < modulus → y < modulus → At code pc (diadic_instructions o) → Makes array code Q sp mem l (diadic_instructions o) (work_diadic o x y) pc x y c r3 ct
  diadic_run plus hx hy at = one_run (Addr 1 0 0) (add x y) at refl
  diadic_run minus hx hy at = one_run (Subr 1 0 0) (sub x y) at (rw (difference_word x y hy))
  diadic_run times hx hy at = one_run (Mul 1 0) (mul x y) at refl
  diadic_run bitwise_and hx hy at = one_run (Andr 1 0) (bit_and x y) at refl
  diadic_run bitwise_or hx hy at = one_run (Orr 1 0) (bit_or x y) at refl
  diadic_run bitwise_xor hx hy at = one_run (Xorr 1 0) (bit_xor x y) at refl
  diadic_run right hx hy at = rw (right_value x y) (shift_run (Shr 1 0) (λ a b. shift_right a (b % 256)) at (λ pc x y c ct. refl))
  diadic_run left hx hy at = rw (left_value x y) (shift_run (Shl 1 0) (λ a b. shift_left a (b % 256)) at (λ pc x y c ct. refl))
  diadic_run equal hx hy at = rw (equal_value (eqb x y)) (equal_run (Subi 0 1) (λ a. difference a 1) hx hy at (λ pc x ct. refl))
  diadic_run unequal hx hy at = rw (unequal_value (eqb x y)) (equal_run (Negr 0 0) (λ a. difference 0 a) hx hy at (λ pc x ct. refl))
  diadic_run less hx hy at = less_run 0 1 x y (λ c d. refl) (λ c d. refl) hx hy at
  diadic_run at_most hx hy at =
      rw (← (truth_not (signed_less y x)))
      (then_run (less_than 1 0) (Mvnr 0 0) (truth (signed_less y x)) complement at (less_run 1 0 y x (λ c d. refl) (λ c d. refl) hy hx (first_at (less_than 1 0) _ at)) (λ pc a b d e f. refl))
  diadic_run greater hx hy at = less_run 1 0 y x (λ c d. refl) (λ c d. refl) hy hx at
  diadic_run at_least hx hy at =
      rw (← (truth_not (signed_less x y)))
      (then_run (less_than 0 1) (Mvnr 0 0) (truth (signed_less x y)) complement at (less_run 0 1 x y (λ c d. refl) (λ c d. refl) hx hy (first_at (less_than 0 1) _ at)) (λ pc a b d e f. refl))
