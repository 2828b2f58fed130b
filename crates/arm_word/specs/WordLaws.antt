-- Laws of words: shifts of words are words, what shifts give, and the signed order against the integers. Rests on Word.
use Rattle.std.specs.Prelude.{◌≡◌, ℕ, suc, ◌+◌, ◌-◌, ◌*◌, ◌/◌, ◌%◌, ◌^◌, ◌<◌, ◌≤◌, false, pos, negsuc, int_lt, nat_le, nat_lt, refl}
use Rattle.std.proofs.Common.{sym, mod-lt, div-le_self, lt_of_le_of_lt, arith, lit<, lt-ltb, le-ltb, ltb-true, ltb-false, le-leb, leb-true, leb-false}
use Rattle.arm_word.specs.Choice.{pick}
use Rattle.arm_word.specs.ChoiceLaws.{by_test}
use Rattle.arm_word.specs.Carry.{signed}
use Rattle.arm_word.specs.Word.{shift_left, shift_right, signed_less}

-- ── shifts give words ──

pub shift_left_fits : (a n : ℕ) → shift_left a n < 4294967296
unfolding shift_left
shift_left_fits a n = by_test (λ t. pick t ((a * 2 ^ n) % 4294967296) 0 < 4294967296) (nat_lt n 32) (λ _. mod-lt (a * 2 ^ n) (lit< tt)) (λ _. lit< tt)

pub shift_right_le : (a n : ℕ) → shift_right a n ≤ a
unfolding shift_right
shift_right_le a n = by_test (λ t. pick t (a / 2 ^ n) 0 ≤ a) (nat_lt n 32) (λ _. div-le_self a (2 ^ n)) (λ _. omega arith)

pub shift_right_fits : (a n : ℕ) → a < 4294967296 → shift_right a n < 4294967296
shift_right_fits a n h = lt_of_le_of_lt (shift_right_le a n) h

-- ── shifts: "A shift count, read unsigned, above 31 gives 0" ──

pub shift_left_small : (a n : ℕ) → n < 32 → shift_left a n ≡ (a * 2 ^ n) % 4294967296
unfolding shift_left
shift_left_small a n h = rw (lt-ltb n 32 h)

pub shift_left_large : (a n : ℕ) → 32 ≤ n → shift_left a n ≡ 0
unfolding shift_left
shift_left_large a n h = rw (le-ltb n 32 h)

pub shift_right_small : (a n : ℕ) → n < 32 → shift_right a n ≡ a / 2 ^ n
unfolding shift_right
shift_right_small a n h = rw (lt-ltb n 32 h)

pub shift_right_large : (a n : ℕ) → 32 ≤ n → shift_right a n ≡ 0
unfolding shift_right
shift_right_large a n h = rw (le-ltb n 32 h)

-- ── words read as signed numbers ──

signed_pos : (a : ℕ) → a < 2147483648 → signed a ≡ pos a
unfolding signed
signed_pos a h = rw (lt-ltb a 2147483648 h)

signed_neg : (a : ℕ) → 2147483648 ≤ a → signed a ≡ negsuc (4294967295 - a)
unfolding signed
signed_neg a h = rw (le-ltb a 2147483648 h)

-- two orders that hold together are the same test; x < y is suc x ≤ y
pub same_order : (a b c d : ℕ) → (a ≤ b → c ≤ d) → (c ≤ d → a ≤ b) → nat_le a b ≡ nat_le c d
same_order a b c d f g =
    by_test (λ t. t ≡ nat_le c d) (nat_le a b)
    (λ p. sym (le-leb c d (f (leb-true a b p))))
    (λ p. by_test (λ t. false ≡ t) (nat_le c d) (λ q. absurd (omega (arith, leb-false a b p, g (leb-true c d q)))) (λ _. refl))

-- "`<` and its kin compare as signed numbers"
pub signed_less_integers : (a b : ℕ) → a < 4294967296 → b < 4294967296 → signed_less a b ≡ int_lt (signed a) (signed b)
unfolding signed_less
signed_less_integers a b ha hb =
    let x = (a + 2147483648) % 4294967296 in
    let y = (b + 2147483648) % 4294967296 in
    by_test (λ _. nat_lt x y ≡ int_lt (signed a) (signed b)) (nat_lt a 2147483648)
    (λ p.
    let p' = ltb-true a 2147483648 p in
    by_test (λ _. nat_lt x y ≡ int_lt (signed a) (signed b)) (nat_lt b 2147483648)
    (λ q. let q' = ltb-true b 2147483648 q in rw (signed_pos a p', signed_pos b q') (same_order (suc x) y (suc a) b (λ h. omega arith) (λ h. omega arith)))
    (λ q. let q' = ltb-false b 2147483648 q in rw (signed_pos a p', signed_neg b q') (le-ltb x y (omega arith))))
    (λ p.
    let p' = ltb-false a 2147483648 p in
    by_test (λ _. nat_lt x y ≡ int_lt (signed a) (signed b)) (nat_lt b 2147483648)
    (λ q. let q' = ltb-true b 2147483648 q in rw (signed_neg a p', signed_pos b q') (lt-ltb x y (omega arith)))
    (λ q. let q' = ltb-false b 2147483648 q in rw (signed_neg a p', signed_neg b q') (same_order (suc x) y (suc (4294967295 - b)) (4294967295 - a) (λ h. omega arith) (λ h. omega arith))))
