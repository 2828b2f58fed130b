-- The sum with carry against the integers, and the last bits out against the manual's extended words. Laws; rests on Carry.
use Rattle.std.specs.Prelude.{◌≡◌, ℕ, zero, suc, ◌+◌, ◌-◌, ◌*◌, ◌/◌, ◌%◌, ◌^◌, ◌<◌, ◌≤◌, Bool, true, false, not, ltb, ℤ, pos, negsuc, ◌+ℤ◌, ◌==◌, int_le, nat_le, nat_lt}
use Rattle.std.proofs.Math.Path.{refl}
use Rattle.std.proofs.Common.{sym, ap, ◌∙◌, pow-suc, mul_assoc, lt_of_lt_of_le, arith, pow-add, pow_mono, shr_lt}
use Rattle.std.proofs.Math.IntN.{sub_ℕ}
use borrow.Author.Tests.{eq-eqb, ne_eqb, lt-ltb, le-ltb, le-leb, ltb-true, ltb-false, leb-true, leb-false}
use Rattle.arm_word.specs.Choice.{pick}
use Rattle.arm_word.specs.ChoiceLaws.{by_test}
use Rattle.arm_word.specs.Word.{modulus, sign, add, sub, complement, shift_right, signed_less}
use Rattle.arm_word.specs.Carry.{differ, bit, signed, same_integer, unsigned_sum, sum_word, carry_out, overflow, last_left, last_right}
use Rattle.arm_word.specs.WordLaws.{same_order, shift_left_small, shift_left_large, shift_right_small, shift_right_large}

-- ── integers as differences of naturals ──

-- a word read signed: 2 ^ 32 less where it is negative
abbrev wrap : ℕ → ℕ
wrap a = 4294967296 * (a / 2147483648)

difference_low : (a b : ℕ) → a < b → sub_ℕ a b ≡ negsuc (b - suc a)
difference_low a b h = rw (lt-ltb a b h)

difference_high : (a b : ℕ) → b ≤ a → sub_ℕ a b ≡ pos (a - b)
difference_high a b h = rw (le-ltb a b h)

signed_difference : (a : ℕ) → a < 4294967296 → signed a ≡ sub_ℕ a (wrap a)
unfolding signed
signed_difference a h =
    by_test (λ t. pick t (pos a) (negsuc (4294967295 - a)) ≡ sub_ℕ a (wrap a)) (nat_lt a 2147483648)
    (λ p. let p' = ltb-true a 2147483648 p in sym (difference_high a (wrap a) (omega arith) ∙ ap pos (omega arith)))
    (λ p. let p' = ltb-false a 2147483648 p in sym (difference_low a (wrap a) (omega arith) ∙ ap negsuc (omega arith)))

-- ── the overflow ──

-- both words have the sign that their sum hasn't
abbrev pub signs_differ : ℕ → ℕ → ℕ → Bool
signs_differ x y w = pick (differ (nat_le sign x) (nat_le sign w)) (differ (nat_le sign y) (nat_le sign w)) false

-- differences add up
sum_of_differences : (a b c d : ℕ) → sub_ℕ a b +ℤ sub_ℕ c d ≡ sub_ℕ (a + c) (b + d)
sum_of_differences a b c d =
    by_test (λ _. sub_ℕ a b +ℤ sub_ℕ c d ≡ sub_ℕ (a + c) (b + d)) (nat_lt a b)
    (λ p. let p' = ltb-true a b p in
    by_test (λ _. sub_ℕ a b +ℤ sub_ℕ c d ≡ sub_ℕ (a + c) (b + d)) (nat_lt c d)
    (λ q. let q' = ltb-true c d q in
    rw (difference_low a b p', difference_low c d q', difference_low (a + c) (b + d) (omega arith)) (ap negsuc (omega arith)))
    (λ q. let q' = ltb-false c d q in
    rw (difference_low a b p', difference_high c d q') (shifted (a + c) (b + d) (c - d) (suc (b - suc a)) (omega arith))))
    (λ p. let p' = ltb-false a b p in
    by_test (λ _. sub_ℕ a b +ℤ sub_ℕ c d ≡ sub_ℕ (a + c) (b + d)) (nat_lt c d)
    (λ q. let q' = ltb-true c d q in
    rw (difference_high a b p', difference_low c d q') (shifted (a + c) (b + d) (a - b) (suc (d - suc c)) (omega arith)))
    (λ q. let q' = ltb-false c d q in
    rw (difference_high a b p', difference_high c d q', difference_high (a + c) (b + d) (omega arith)) (ap pos (omega arith))))
  where
    -- equal differences are the same integer
    shifted : (a b c d : ℕ) → a + d ≡ c + b → sub_ℕ c d ≡ sub_ℕ a b
    shifted a b c d e =
        by_test (λ _. sub_ℕ c d ≡ sub_ℕ a b) (nat_lt a b)
        (λ p. let p' = ltb-true a b p in rw (difference_low a b p', difference_low c d (omega arith)) (ap negsuc (omega arith)))
        (λ p. let p' = ltb-false a b p in rw (difference_high a b p', difference_high c d (omega arith)) (ap pos (omega arith)))

-- two differences are the same integer where the sums crosswise are
same_differences : (a b c d : ℕ) → same_integer (sub_ℕ a b) (sub_ℕ c d) ≡ (a + d == c + b)
same_differences a b c d =
    by_test (λ _. same_integer (sub_ℕ a b) (sub_ℕ c d) ≡ (a + d == c + b)) (nat_lt a b)
    (λ p. let p' = ltb-true a b p in
    by_test (λ _. same_integer (sub_ℕ a b) (sub_ℕ c d) ≡ (a + d == c + b)) (nat_lt c d)
    (λ q. let q' = ltb-true c d q in
    rw (difference_low a b p', difference_low c d q') (orders (d - suc c) (b - suc a) (a + d) (c + b) (omega arith)))
    (λ q. let q' = ltb-false c d q in rw (difference_low a b p', difference_high c d q') (sym (ne_eqb (a + d) (c + b) (λ e. omega arith)))))
    (λ p. let p' = ltb-false a b p in
    by_test (λ _. same_integer (sub_ℕ a b) (sub_ℕ c d) ≡ (a + d == c + b)) (nat_lt c d)
    (λ q. let q' = ltb-true c d q in rw (difference_high a b p', difference_low c d q') (sym (ne_eqb (a + d) (c + b) (λ e. omega arith))))
    (λ q. let q' = ltb-false c d q in
    rw (difference_high a b p', difference_high c d q') (orders (a - b) (c - d) (a + d) (c + b) (omega arith))))
  where
    orders : (m n a c : ℕ) → m + c ≡ n + a → pick (nat_le m n) (nat_le n m) false ≡ (a == c)
    orders m n a c e =
        by_test (λ t. pick t (nat_le n m) false ≡ (a == c)) (nat_le m n)
        (λ p. let p' = leb-true m n p in
        by_test (λ t. t ≡ (a == c)) (nat_le n m)
        (λ q. let q' = leb-true n m q in sym (eq-eqb a c (omega arith)))
        (λ q. let q' = leb-false n m q in sym (ne_eqb a c (λ z. omega arith))))
        (λ p. let p' = leb-false m n p in sym (ne_eqb a c (λ z. omega arith)))

bit_small : (c : Bool) → bit c < 2
bit_small true = omega arith
bit_small false = omega arith

-- the integers of 32 bits, -2 ^ 31 up to 2 ^ 31 - 1
abbrev pub in_range : ℤ → Bool
in_range z = pick (int_le (negsuc 2147483647) z) (int_le z (pos 2147483647)) false

from_low : (k a b : ℕ) → int_le (negsuc k) (sub_ℕ a b) ≡ nat_le b (a + suc k)
from_low k a b =
    by_test (λ _. int_le (negsuc k) (sub_ℕ a b) ≡ nat_le b (a + suc k)) (nat_lt a b)
    (λ p. let p' = ltb-true a b p in rw (difference_low a b p') (same_order (b - suc a) k b (a + suc k) (λ h. omega arith) (λ h. omega arith)))
    (λ p. let p' = ltb-false a b p in rw (difference_high a b p') (sym (le-leb b (a + suc k) (omega arith))))

to_high : (k a b : ℕ) → int_le (sub_ℕ a b) (pos k) ≡ nat_le a (k + b)
to_high k a b =
    by_test (λ _. int_le (sub_ℕ a b) (pos k) ≡ nat_le a (k + b)) (nat_lt a b)
    (λ p. let p' = ltb-true a b p in rw (difference_low a b p') (sym (le-leb a (k + b) (omega arith))))
    (λ p. let p' = ltb-false a b p in rw (difference_high a b p') (same_order (a - b) k a (k + b) (λ h. omega arith) (λ h. omega arith)))

by_both : (a b m n k l : ℕ) → (a ≡ b → (m ≤ n) × (k ≤ l)) → (m ≤ n → k ≤ l → a ≡ b) → (a == b) ≡ pick (nat_le m n) (nat_le k l) false
by_both a b m n k l f g =
    by_test (λ t. (a == b) ≡ pick t (nat_le k l) false) (nat_le m n)
    (λ p. by_test (λ t. (a == b) ≡ t) (nat_le k l)
    (λ q. eq-eqb a b (g (leb-true m n p) (leb-true k l q)))
    (λ q. ne_eqb a b (λ e. omega (arith, (f e).1, leb-false k l q))))
    (λ p. ne_eqb a b (λ e. omega (arith, (f e).0, leb-false m n p)))

-- a word read signed is an integer of its class by 2 ^ 32 only where that is in range
crossed : (a k b j w : ℕ) → a ≡ 4294967296 * k + w → b ≡ 4294967296 * j → w < 4294967296
    → (w + b == a + wrap w) ≡ pick (nat_le b (a + 2147483648)) (nat_le a (2147483647 + b)) false
crossed a k b j w e f h = by_both (w + b) (a + wrap w) b (a + 2147483648) a (2147483647 + b) (λ g. (omega arith, omega arith)) (λ g g'. omega arith)

-- the sign is the quotient
quotient : (a : ℕ) (s : Bool) → nat_le sign a ≡ s → a < 4294967296 → a / 2147483648 ≡ bit s
quotient a true e h = omega (arith, leb-true sign a e)
quotient a false e h = omega (arith, leb-false sign a e)

module _ (x y : ℕ) (c : Bool) (hx : x < 4294967296) (hy : y < 4294967296) where
  abbrev w : ℕ
  w = sum_word x y c

  signed_sum : signed x +ℤ signed y +ℤ pos (bit c) ≡ sub_ℕ (unsigned_sum x y c) (wrap x + wrap y)
  signed_sum =
      let e : pos (bit c) ≡ sub_ℕ (bit c) 0 = sym (difference_high (bit c) 0 (omega arith) ∙ ap pos (omega arith)) in
      rw (signed_difference x hx, signed_difference y hy, e, sum_of_differences x (wrap x) y (wrap y))
      (sum_of_differences (x + y) (wrap x + wrap y) (bit c) 0 ∙ ap (sub_ℕ (unsigned_sum x y c)) (omega arith))

  -- the sums crosswise of the word read signed and of the signed sum
  abbrev left : ℕ
  left = w + (wrap x + wrap y)

  abbrev right : ℕ
  right = unsigned_sum x y c + wrap w

  overflow_naturals : overflow x y c ≡ not (left == right)
  unfolding overflow
  overflow_naturals = rw (signed_difference w (omega arith), signed_sum) (ap not (same_differences w (wrap w) (unsigned_sum x y c) (wrap x + wrap y)))

  -- by the signs, as the code tests it
  pub overflow_signs : overflow x y c ≡ signs_differ x y w
  overflow_signs = overflow_naturals ∙ by (nat_le sign x) (nat_le sign y) (nat_le sign w) refl refl refl
    where
      small : w < 4294967296
      small = omega arith

      -- `left` and `right`, by the signs
      wrapped : Bool → Bool → ℕ
      wrapped s t = w + (4294967296 * bit s + 4294967296 * bit t)

      full : Bool → ℕ
      full u = unsigned_sum x y c + 4294967296 * bit u

      at : (s t u : Bool) → nat_le sign x ≡ s → nat_le sign y ≡ t → nat_le sign w ≡ u → not (wrapped s t == full u) ≡ pick (differ s u) (differ t u) false
      at false false false p q r = ap not (eq-eqb (wrapped false false) (full false) (omega (arith, leb-false sign x p, leb-false sign y q, leb-false sign w r, bit_small c)))
      at false false true p q r = ap not (ne_eqb (wrapped false false) (full true) (λ e. omega (arith, leb-false sign x p, leb-false sign y q, leb-true sign w r, bit_small c)))
      at false true false p q r = ap not (eq-eqb (wrapped false true) (full false) (omega (arith, leb-false sign x p, leb-true sign y q, leb-false sign w r, bit_small c)))
      at false true true p q r = ap not (eq-eqb (wrapped false true) (full true) (omega (arith, leb-false sign x p, leb-true sign y q, leb-true sign w r, bit_small c)))
      at true false false p q r = ap not (eq-eqb (wrapped true false) (full false) (omega (arith, leb-true sign x p, leb-false sign y q, leb-false sign w r, bit_small c)))
      at true false true p q r = ap not (eq-eqb (wrapped true false) (full true) (omega (arith, leb-true sign x p, leb-false sign y q, leb-true sign w r, bit_small c)))
      at true true false p q r = ap not (ne_eqb (wrapped true true) (full false) (λ e. omega (arith, leb-true sign x p, leb-true sign y q, leb-false sign w r, bit_small c)))
      at true true true p q r = ap not (eq-eqb (wrapped true true) (full true) (omega (arith, leb-true sign x p, leb-true sign y q, leb-true sign w r, bit_small c)))

      by : (s t u : Bool) → nat_le sign x ≡ s → nat_le sign y ≡ t → nat_le sign w ≡ u → not (left == right) ≡ pick (differ s u) (differ t u) false
      by s t u p q r = rw (quotient x s p hx, quotient y t q hy, quotient w u r small) (at s t u p q r)

  -- the carry out: the unsigned sum passes 2 ^ 32
  pub carry_integers : carry_out x y c ≡ nat_le modulus (unsigned_sum x y c)
  unfolding carry_out
  carry_integers =
      by_test (λ t. not (w == unsigned_sum x y c) ≡ t) (nat_le modulus (unsigned_sum x y c))
      (λ p. rw (ne_eqb w (unsigned_sum x y c) (λ e. omega (arith, leb-true modulus (unsigned_sum x y c) p))))
      (λ p. rw (eq-eqb w (unsigned_sum x y c) (omega (arith, leb-false modulus (unsigned_sum x y c) p))))

  -- the overflow: the signed sum is not in the range of 32 bits
  pub overflow_integers : overflow x y c ≡ not (in_range (signed x +ℤ signed y +ℤ pos (bit c)))
  overflow_integers =
      overflow_naturals
      ∙ rw (signed_sum, from_low 2147483647 (unsigned_sum x y c) (wrap x + wrap y), to_high 2147483647 (unsigned_sum x y c) (wrap x + wrap y))
      (ap not (crossed (unsigned_sum x y c) (unsigned_sum x y c / 4294967296) (wrap x + wrap y) (x / 2147483648 + y / 2147483648) w (omega arith) (omega arith) (omega arith)))

-- without a carry in it is the sum
pub sum_plain : (x y : ℕ) → sum_word x y false ≡ add x y
sum_plain x y = omega arith

-- ── a difference is the sum with the complement and a carry in ──

pub difference_word : (x y : ℕ) → y < 4294967296 → sum_word x (complement y) true ≡ sub x y
difference_word x y h = omega arith

module _ (x y : ℕ) (hx : x < 4294967296) (hy : y < 4294967296) where
  -- its carry out is 1 where nothing is borrowed
  pub difference_carry : carry_out x (complement y) true ≡ nat_le y x
  difference_carry = carry_integers x (complement y) true hx (omega arith) ∙ same_order modulus (unsigned_sum x (complement y) true) y x (λ h. omega arith) (λ h. omega arith)

  -- after it N and V differ exactly where x is below y, both read signed
  pub less_flags : differ (nat_le sign (sub x y)) (overflow x (complement y) true) ≡ signed_less x y
  unfolding signed_less
  less_flags =
      rw (overflow_signs x (complement y) true hx (omega arith), difference_word x y hy) (at (nat_le sign x) (nat_le sign (complement y)) (nat_le sign (sub x y)) refl refl refl)
    where
      left : ℕ
      left = (x + 2147483648) % 4294967296

      right : ℕ
      right = (y + 2147483648) % 4294967296

      at : (s t u : Bool) → nat_le sign x ≡ s → nat_le sign (complement y) ≡ t → nat_le sign (sub x y) ≡ u → differ u (pick (differ s u) (differ t u) false) ≡ nat_lt left right
      at false false false p q r = sym (le-ltb left right (omega (arith, leb-false sign x p, leb-false sign (complement y) q, leb-false sign (sub x y) r)))
      at false false true p q r = sym (le-ltb left right (omega (arith, leb-false sign x p, leb-false sign (complement y) q, leb-true sign (sub x y) r)))
      at false true false p q r = sym (le-ltb left right (omega (arith, leb-false sign x p, leb-true sign (complement y) q, leb-false sign (sub x y) r)))
      at false true true p q r = sym (lt-ltb left right (omega (arith, leb-false sign x p, leb-true sign (complement y) q, leb-true sign (sub x y) r)))
      at true false false p q r = sym (le-ltb left right (omega (arith, leb-true sign x p, leb-false sign (complement y) q, leb-false sign (sub x y) r)))
      at true false true p q r = sym (lt-ltb left right (omega (arith, leb-true sign x p, leb-false sign (complement y) q, leb-true sign (sub x y) r)))
      at true true false p q r = sym (lt-ltb left right (omega (arith, leb-true sign x p, leb-true sign (complement y) q, leb-false sign (sub x y) r)))
      at true true true p q r = sym (lt-ltb left right (omega (arith, leb-true sign x p, leb-true sign (complement y) q, leb-true sign (sub x y) r)))

-- 0 - y overflows where y is the least number
pub negative_overflow : (y : ℕ) → y < 4294967296 → overflow 0 (complement y) true ≡ (y == sign)
negative_overflow y h =
    overflow_signs 0 (complement y) true (omega arith) (omega arith)
    ∙ rw (difference_word 0 y h) (at (nat_le sign (complement y)) (nat_le sign (sub 0 y)) refl refl)
  where
    at : (t u : Bool) → nat_le sign (complement y) ≡ t → nat_le sign (sub 0 y) ≡ u → pick (differ false u) (differ t u) false ≡ (y == sign)
    at false false q r = sym (ne_eqb y sign (λ e. omega (arith, leb-false sign (sub 0 y) r)))
    at true false q r = sym (ne_eqb y sign (λ e. omega (arith, leb-false sign (sub 0 y) r)))
    at false true q r = sym (eq-eqb y sign (omega (arith, leb-false sign (complement y) q, leb-true sign (sub 0 y) r)))
    at true true q r = sym (ne_eqb y sign (λ e. omega (arith, leb-true sign (complement y) q)))

-- ── the last bit out is the manual's: of the word extended at the end that it leaves by, the bit next to the result ──

pub last_left_extended : (x n : ℕ) → 0 < n → last_left x n ≡ (x * 2 ^ n / 4294967296 % 2 == 1)
unfolding last_left
last_left_extended x zero h = absurd (omega arith)
last_left_extended x (suc k) h = by_test (λ _. last_left x (suc k) ≡ (x * 2 ^ suc k / 4294967296 % 2 == 1)) (nat_lt k 32) below above
  where
    less : suc k - 1 ≡ k
    less = omega arith

    twice : x * 2 ^ suc k ≡ 2 * (x * 2 ^ k)
    twice = rw (pow-suc 2 k) (omega (arith, mul_assoc x (2 ^ k) 2))

    end_bit : (p : ℕ) → nat_le sign (p % 4294967296) ≡ (2 * p / 4294967296 % 2 == 1)
    end_bit p =
        by_test (λ t. t ≡ (2 * p / 4294967296 % 2 == 1)) (nat_le sign (p % 4294967296))
        (λ e. sym (eq-eqb (2 * p / 4294967296 % 2) 1 (omega (arith, leb-true sign (p % 4294967296) e))))
        (λ e. sym (ne_eqb (2 * p / 4294967296 % 2) 1 (λ z. omega (arith, leb-false sign (p % 4294967296) e))))

    below : ltb k 32 ≡ true → last_left x (suc k) ≡ (x * 2 ^ suc k / 4294967296 % 2 == 1)
    below e = rw (less, shift_left_small x k (ltb-true k 32 e), twice) (end_bit (x * 2 ^ k))

    above : ltb k 32 ≡ false → last_left x (suc k) ≡ (x * 2 ^ suc k / 4294967296 % 2 == 1)
    above e =
        let h' = ltb-false k 32 e in
        let s : k ≡ k - 32 + 32 = omega arith in
        let f : 2 ^ k ≡ 2 ^ (k - 32) * 4294967296 = ap (λ (n : ℕ). 2 ^ n) s ∙ pow-add 2 (k - 32) 32 in
        let g : x * 2 ^ k ≡ x * 2 ^ (k - 32) * 4294967296 = ap (λ (p : ℕ). x * p) f ∙ sym (mul_assoc x (2 ^ (k - 32)) 4294967296) in
        rw (less, shift_left_large x k h') (sym (ne_eqb (x * 2 ^ suc k / 4294967296 % 2) 1 (λ z. omega (arith, twice, g))))

pub last_right_extended : (x n : ℕ) → x < 4294967296 → 0 < n → last_right x n ≡ (x / 2 ^ (n - 1) % 2 == 1)
unfolding last_right
last_right_extended x n hx h =
    by_test (λ _. (shift_right x (n - 1) % 2 == 1) ≡ (x / 2 ^ (n - 1) % 2 == 1)) (nat_lt (n - 1) 32)
    (λ e. rw (shift_right_small x (n - 1) (ltb-true (n - 1) 32 e)))
    (λ e.
    let h' = ltb-false (n - 1) 32 e in
    let p : x < 2 ^ (0 + (n - 1)) = lt_of_lt_of_le hx (pow_mono {i = 32} {j = 0 + (n - 1)} (omega arith)) in
    let z : x / 2 ^ (n - 1) ≡ 0 = omega (arith, shr_lt 0 (n - 1) p) in
    rw (shift_right_large x (n - 1) h', z))
