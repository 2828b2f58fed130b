-- What the zeros at both ends of a word say of it. Laws; they rest on the kit's counts of zeros.
use Rattle.std.specs.Prelude.{◌≡◌, refl, ◌⊎◌, ℕ, zero, suc, ◌+◌, ◌*◌, ◌/◌, ◌%◌, ◌^◌, ◌≤◌, ◌<◌}
use Rattle.std.proofs.Common.{sym, ap, subst, ◌∙◌, inl, inr, pow-suc, mul_assoc, mod-lt, le_trans, le_of_eq, mul-le-mul_right, lt_of_not-le, arith, pow_mono, pow_pos, shr_lt, shl_lt}
use Rattle.std.specs.Int.Bits.{shifted_even, shifted_half}
use Rattle.std.specs.Int.Count.{count_trailing_zeros, count_leading_zeros, under}
use Rattle.std.proofs.lemmas.Nat.{leading_top, shl-shr}

-- a digit below 2 is 0 or 1
digit : (d : ℕ) → d < 2 → (d ≡ 0) ⊎ (d ≡ 1)
digit zero h = inl refl
digit (suc zero) h = inr refl
digit (suc (suc d)) h = absurd (omega arith)

-- a word is what stands above its trailing zeros, shifted back
exact : (k n : ℕ) → (q : ℕ) × (n ≡ q * 2 ^ count_trailing_zeros k n)
unfolding count_trailing_zeros
exact zero n = (n, omega arith)
exact (suc k) n = go (exact k (n / 2)) (digit (n % 2) (mod-lt n (omega arith)))
  where
    go : (q : ℕ) × (n / 2 ≡ q * 2 ^ count_trailing_zeros k (n / 2)) → (n % 2 ≡ 0) ⊎ (n % 2 ≡ 1) → (q : ℕ) × (n ≡ q * 2 ^ under (n % 2) (count_trailing_zeros k (n / 2)))
    go ih (inl e) = (ih.0, rw e (rw (pow-suc 2 (count_trailing_zeros k (n / 2))) (omega (arith, ih.1, mul_assoc ih.0 (2 ^ count_trailing_zeros k (n / 2)) 2))))
    go ih (inr e) = (n, rw e (omega arith))

pub trailing_exact : (k n : ℕ) → n / 2 ^ count_trailing_zeros k n * 2 ^ count_trailing_zeros k n ≡ n
trailing_exact k n =
    let x = exact k n in
    ap (λ (m : ℕ). m / 2 ^ count_trailing_zeros k n * 2 ^ count_trailing_zeros k n) x.1 ∙ ap (λ (m : ℕ). m * 2 ^ count_trailing_zeros k n) (shl-shr x.0 (count_trailing_zeros k n)) ∙ sym x.1

-- a word that is not 0 has fewer trailing zeros than digits
pub trailing_lt : (k n : ℕ) → 0 < n → n < 2 ^ k → count_trailing_zeros k n < k
unfolding count_trailing_zeros
trailing_lt zero n p h = absurd (omega arith)
trailing_lt (suc k) n p h = go (λ (q : 0 < n / 2). trailing_lt k (n / 2) q (shr_lt k 1 (subst (λ (m : ℕ). n < 2 ^ m) (omega arith) h))) (digit (n % 2) (mod-lt n (omega arith)))
  where
    go : (0 < n / 2 → count_trailing_zeros k (n / 2) < k) → (n % 2 ≡ 0) ⊎ (n % 2 ≡ 1) → under (n % 2) (count_trailing_zeros k (n / 2)) < suc k
    go ih (inl e) = rw e (omega (arith, ih (omega arith)))
    go ih (inr e) = rw e (omega arith)

-- where the zeros at both ends are 24 of 32, what stands between them is a byte
pub span_byte : (w : ℕ) → 0 < w → w < 2 ^ 32 → 24 ≤ count_leading_zeros 32 w + count_trailing_zeros 32 w → w / 2 ^ count_trailing_zeros 32 w < 256
span_byte w p h s =
    let t = leading_top 32 w p h in
    let b : 2 ^ suc t.0 ≤ 2 ^ (8 + count_trailing_zeros 32 w) = pow_mono (omega (arith, t.1)) in
    shr_lt 8 (count_trailing_zeros 32 w) (omega (arith, t.3))

-- and the other way: a byte shifted up has the zeros at both ends
trailing_ge : (k m q : ℕ) → m ≤ k → m ≤ count_trailing_zeros k (q * 2 ^ m)
unfolding count_trailing_zeros
trailing_ge k zero q h = omega arith
trailing_ge zero (suc m) q h = absurd (omega arith)
trailing_ge (suc k) (suc m) q h = rw (shifted_even q m, shifted_half q m) (omega (arith, trailing_ge k m q (omega arith)))

pow_less : (i j : ℕ) → 2 ^ i < 2 ^ j → i < j
pow_less i j h = lt_of_not-le (λ (g : j ≤ i). let q : 2 ^ j ≤ 2 ^ i = pow_mono g in omega arith)

pub byte_span : (u n : ℕ) → 0 < u → u < 256 → u * 2 ^ n < 2 ^ 32 → 24 ≤ count_leading_zeros 32 (u * 2 ^ n) + count_trailing_zeros 32 (u * 2 ^ n)
byte_span u n p h b =
    let z : 2 ^ n ≤ u * 2 ^ n = le_trans (le_of_eq (omega arith)) (mul-le-mul_right (2 ^ n) p) in
    let s : n < 32 = pow_less n 32 (omega arith) in
    let t = leading_top 32 (u * 2 ^ n) (omega (arith, pow_pos n)) b in
    let y : u * 2 ^ n < 2 ^ (8 + n) = shl_lt 8 n h in
    let j : t.0 < 8 + n = pow_less t.0 (8 + n) (omega (arith, t.2)) in
    omega (arith, t.1, trailing_ge 32 n u (omega arith))
