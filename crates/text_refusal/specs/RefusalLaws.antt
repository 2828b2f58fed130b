-- The steps of the search for the token at a place. Laws; assumes nothing.
use Rattle.std.specs.Prelude.{◌≡◌, refl, List, ◌∷◌, min, leb, length, take, get_or}
use Rattle.std.proofs.Common.{ap, sym, add-one}
use Rattle.std.proofs.Math.Seq.{get_or-take}
use Prim.Native.Nat.{ℕ, zero, suc, ◌+◌, ◌-◌, ◌<◌, ◌≤◌}
use native.Mathlib.Omega.{arith}
use borrow.Author.Tests.{le-leb, lt-leb}
use Rattle.arm_word.specs.Choice.{pick}
use Rattle.x_tokens.specs.TokenList.{Entry, entries}
use Rattle.text_refusal.specs.declared.Near.{Near}
use Rattle.text_refusal.specs.Refusal.{near_in, no_token}

-- ── by places in whole arrays ──

module _ (ks ps vs : List ℕ) (place : ℕ) where
  pub near_start : (n : ℕ) → near_in (entries ks ps vs 0 (n - 0)) place no_token no_token ≡ near_in (entries ks ps vs 0 n) place no_token no_token
  near_start n = let z : n - 0 ≡ n = omega arith in ap (λ (m : ℕ). near_in (entries ks ps vs 0 m) place no_token no_token) z

  pub near_end : (n i b p : ℕ) → n ≤ i → near_in (entries ks ps vs i (n - i)) place b p ≡ record { before = b; previous = p; met = no_token }
  unfolding near_in entries
  near_end n i b p h = let z : n - i ≡ 0 = omega arith in rw z

  pub near_here : (n i b p : ℕ) → i < n → place ≤ get_or ps i 0 → near_in (entries ks ps vs i (n - i)) place b p ≡ record { before = b; previous = p; met = get_or ks i 0 }
  unfolding near_in entries
  near_here n i b p h l = let z : n - i ≡ suc (n - suc i) = omega arith in rw (z, le-leb place (get_or ps i 0) l)

  pub near_next : (n i b p : ℕ) → i < n → get_or ps i 0 < place → near_in (entries ks ps vs i (n - i)) place b p ≡ near_in (entries ks ps vs (i + 1) (n - (i + 1))) place p (get_or ks i 0)
  unfolding near_in entries
  near_next n i b p h l = let z : n - i ≡ suc (n - suc i) = omega arith in rw (z, lt-leb place (get_or ps i 0) l, add-one)

-- ── by what is left of the two lists of cells ──

-- the first n cells are enough
pub entries_front : (n : ℕ) (ks ps vs : List ℕ) (m i : ℕ) → i + m ≤ n → entries (take n ks) (take n ps) vs i m ≡ entries ks ps vs i m
unfolding entries
entries_front n ks ps vs zero i h = refl
entries_front n ks ps vs (suc m) i h =
    rw (get_or-take n ks i 0 (omega arith), get_or-take n ps i 0 (omega arith))
    (ap (λ (ts : List Entry). record { kind = get_or ks i 0; place = get_or ps i 0; value = get_or vs i 0 } ∷ ts) (entries_front n ks ps vs m (suc i) (omega arith)))

-- behind the first cells
shifted : (k p v : ℕ) (ks ps vs : List ℕ) (m i : ℕ) → entries (k ∷ ks) (p ∷ ps) (v ∷ vs) (suc i) m ≡ entries ks ps vs i m
unfolding entries
shifted k p v ks ps vs zero i = refl
shifted k p v ks ps vs (suc m) i =
    ap (λ (ts : List Entry). record { kind = get_or ks i 0; place = get_or ps i 0; value = get_or vs i 0 } ∷ ts) (shifted k p v ks ps vs m (suc i))

-- the values count for nothing
pub near_any : (ks ps vs ws : List ℕ) (place m i b p : ℕ) → near_in (entries ks ps vs i m) place b p ≡ near_in (entries ks ps ws i m) place b p
unfolding near_in entries
near_any ks ps vs ws place zero i b p = refl
near_any ks ps vs ws place (suc m) i b p =
    ap (λ (r : Near). pick (leb place (get_or ps i 0)) (record { before = b; previous = p; met = get_or ks i 0 }) r) (near_any ks ps vs ws place m (suc i) p (get_or ks i 0))

module _ (k q : ℕ) (ks ps vs : List ℕ) (place b p : ℕ) where
  pub left_here : place ≤ q → near_in (entries (k ∷ ks) (q ∷ ps) vs 0 (min (length (k ∷ ks)) (length (q ∷ ps)))) place b p
      ≡ record { before = b; previous = p; met = k }
  unfolding near_in entries
  left_here h = let z : min (suc (length ks)) (suc (length ps)) ≡ suc (min (length ks) (length ps)) = omega arith in rw (z, le-leb place q h) refl

  pub left_next : q < place → near_in (entries ks ps vs 0 (min (length ks) (length ps))) place p k
      ≡ near_in (entries (k ∷ ks) (q ∷ ps) (0 ∷ vs) 0 (min (length (k ∷ ks)) (length (q ∷ ps)))) place b p
  unfolding near_in entries
  left_next h =
      let z : min (suc (length ks)) (suc (length ps)) ≡ suc (min (length ks) (length ps)) = omega arith in
      let s = shifted k q 0 ks ps vs (min (length ks) (length ps)) 0 in
      rw (z, lt-leb place q h) (ap (λ (es : List Entry). near_in es place p k) (sym s))

-- where either is used up
pub left_end : (ks ps vs : List ℕ) (place b p : ℕ) → min (length ks) (length ps) ≡ 0 → near_in (entries ks ps vs 0 (min (length ks) (length ps))) place b p
    ≡ record { before = b; previous = p; met = no_token }
unfolding near_in entries
left_end ks ps vs place b p z = rw z refl
