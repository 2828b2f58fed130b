-- Laws of fields: three digits put together and taken apart, a shift's count, a signed distance; each once, over the limits or the width. Rests on Encoding.
use Rattle.std.specs.Prelude.{◌≡◌, ℕ, ◌+◌, ◌-◌, ◌*◌, ◌/◌, ◌%◌, ◌≤◌, ◌<◌, ltb, eqb}
use Rattle.std.proofs.Common.{sym, ◌∙◌, add-mul, mul_assoc, add_assoc, mul_comm, div-add-mod', one-mul, mul-pos, arith}
use Rattle.std.proofs.Math.Nat.{div-div-eq-div-mul, div-eq_of_lt-le}
use Rattle.std.proofs.Math.Arith.{digits_lt, digits_div, digits_mod, mod-mul}
use borrow.Author.Tests.{lt-ltb, le-ltb, ltb-true, ltb-false, eqb-true}
use Rattle.arm_word.specs.Choice.{pick}
use Rattle.arm_word.specs.ChoiceLaws.{by_test}
use Rattle.arm_encoding.specs.Encoding.{Encoded, Form, put, one, refused, swap32, narrow, widen}

-- ── three digits over a multiple of their block ──

module _ (q la lb lc a b c : ℕ) (ha : a < la) (hb : b < lb) (hc : c < lc) where
  pub packed_lt : (a * lb + b) * lc + c < la * lb * lc
  packed_lt = digits_lt (digits_lt ha hb) hc

  -- the number is one number in mixed digits
  digits : q * (la * lb * lc) + ((a * lb + b) * lc + c) ≡ ((q * la + a) * lb + b) * lc + c
  digits = simp (add-mul, ← mul_assoc, add_assoc)

  pub low_digit : (q * (la * lb * lc) + ((a * lb + b) * lc + c)) % lc ≡ c
  low_digit = rw digits (digits_mod ((q * la + a) * lb + b) hc)

  pub middle_digit : (q * (la * lb * lc) + ((a * lb + b) * lc + c)) / lc % lb ≡ b
  middle_digit = rw (digits, digits_div ((q * la + a) * lb + b) hc) (digits_mod (q * la + a) hb)

  pub high_digit : (q * (la * lb * lc) + ((a * lb + b) * lc + c)) / (lb * lc) % la ≡ a
  high_digit =
      rw (mul_comm lb lc, ← div-div-eq-div-mul _ lc lb, digits, digits_div ((q * la + a) * lb + b) hc, digits_div (q * la + a) hb) (digits_mod q ha)

-- the digits of a number of the block, put together again
pub repack : (q la lb lc h : ℕ) → 0 < la → 0 < lb → 0 < lc → q * (la * lb * lc) ≤ h → h < q * (la * lb * lc) + la * lb * lc
    → q * (la * lb * lc) + ((h / (lb * lc) % la * lb + h / lc % lb) * lc + h % lc) ≡ h
repack q la lb lc h pa pb pc l u =
    let m = la * lb * lc in
    let e : h / m ≡ q = div-eq_of_lt-le m l (rw (add-mul, one-mul) u) in
    rw (mul_comm lb lc, ← div-div-eq-div-mul h lc lb, ← mod-mul (h / lc) pa pb, ← mod-mul h (mul-pos pa pb) pc, ← e) (div-add-mod' h m)

-- ── a shift's count ──

pub swap32_swap32 : (n : ℕ) → swap32 (swap32 n) ≡ n
unfolding swap32
swap32_swap32 n =
    by_test (λ t. pick (eqb (pick t 32 (pick (eqb n 32) 0 n)) 0) 32 (pick (eqb (pick t 32 (pick (eqb n 32) 0 n)) 32) 0 (pick t 32 (pick (eqb n 32) 0 n))) ≡ n) (eqb n 0)
    (λ e. sym (eqb-true n 0 e))
    (λ e. by_test (λ t. pick (eqb (pick t 0 n) 0) 32 (pick (eqb (pick t 0 n) 32) 0 (pick t 0 n)) ≡ n) (eqb n 32)
    (λ f. sym (eqb-true n 32 f))
    (λ f. simp (e, f)))

-- ── a signed distance: a word that is within half of 0, and its field below 2 half ──

module _ (half d : ℕ) where
  widen_low : d < half → widen half d ≡ d
  unfolding widen
  widen_low h = rw (lt-ltb d half h)

  widen_high : half ≤ d → widen half d ≡ d + (4294967296 - 2 * half)
  unfolding widen
  widen_high h = rw (le-ltb d half h)

  narrow_low : d < half → narrow half d ≡ d
  unfolding narrow
  narrow_low h = rw (lt-ltb d half h)

  narrow_out : half ≤ d → d < 4294967296 - half → narrow half d ≡ 2 * half
  unfolding narrow
  narrow_out h k = rw (le-ltb d half h, lt-ltb d (4294967296 - half) k)

  narrow_high : half ≤ d → 4294967296 - half ≤ d → narrow half d ≡ d - (4294967296 - 2 * half)
  unfolding narrow
  narrow_high h k = rw (le-ltb d half h, le-ltb d (4294967296 - half) k)

pub narrow_widen : (half f : ℕ) → 2 * half ≤ 4294967296 → f < 2 * half → narrow half (widen half f) ≡ f
narrow_widen half f hh hf =
    by_test (λ _. narrow half (widen half f) ≡ f) (ltb f half)
    (λ e. let h = ltb-true f half e in rw (widen_low half f h) (narrow_low half f h))
    (λ e. let h = ltb-false f half e in rw (widen_high half f h) (narrow_high half _ (omega arith) (omega arith) ∙ omega arith))

pub widen_narrow : (half d : ℕ) → 2 * half ≤ 4294967296 → narrow half d < 2 * half → widen half (narrow half d) ≡ d
widen_narrow half d hh hd =
    by_test (λ _. widen half (narrow half d) ≡ d) (ltb d half)
    (λ e. let h = ltb-true d half e in rw (narrow_low half d h) (widen_low half d h))
    (λ e.
    let h = ltb-false d half e in
    by_test (λ _. widen half (narrow half d) ≡ d) (ltb d (4294967296 - half))
    (λ f. absurd (omega (arith, narrow_out half d h (ltb-true d (4294967296 - half) f))))
    (λ f. let k = ltb-false d (4294967296 - half) f in rw (narrow_high half d h k) (widen_high half _ (omega arith) ∙ omega arith)))

-- ── fields in range, and what was put ──

module _ (f : Form) (a b c : ℕ) where
  pub put_one : a < f.high → b < f.middle → c < f.low → put f a b c ≡ one (f.base + ((a * f.middle + b) * f.low + c))
  unfolding put
  put_one ha hb hc = simp (lt-ltb a f.high ha, lt-ltb b f.middle hb, lt-ltb c f.low hc)

  -- out of range it is refused, so what wasn't refused is in range
  pub put_cases : (P : Encoded → Type 0) → (a < f.high → b < f.middle → c < f.low → P (one (f.base + ((a * f.middle + b) * f.low + c)))) → P refused → P (put f a b c)
  unfolding put
  put_cases P fits not_fits =
      let h = one (f.base + ((a * f.middle + b) * f.low + c)) in
      by_test (λ t. P (pick t (pick (ltb b f.middle) (pick (ltb c f.low) h refused) refused) refused)) (ltb a f.high)
      (λ p. by_test (λ t. P (pick t (pick (ltb c f.low) h refused) refused)) (ltb b f.middle)
      (λ q. by_test (λ t. P (pick t h refused)) (ltb c f.low) (λ r. fits (ltb-true a f.high p) (ltb-true b f.middle q) (ltb-true c f.low r)) (λ _. not_fits))
      (λ _. not_fits))
      (λ _. not_fits)
