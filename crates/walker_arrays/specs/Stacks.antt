-- A stack as a list, the last pushed first. Definitions and laws.
use Rattle.std.specs.Prelude.{◌≡◌, ℕ, zero, suc, ◌+◌, ◌-◌, ◌<◌, ◌≤◌, List, [], ◌∷◌, length, take, set, get_or, reverse, Option, Some, None}
use Rattle.std.proofs.Common.{refl, ap, ◌∙◌, sym, arith, add-one, length-take}
use Rattle.std.proofs.lemmas.List.{length-reverse, reverse-append}
use Rattle.std.proofs.Math.Seq.{take-suc, take-suc-set}

-- the first n values of a buffer, the last of them first
unfoldable pub piled : {A : Type 0} → ℕ → List A → List A
piled n l = reverse (take n l)

-- the last pushed, if there is one
abbrev pub first : {A : Type 0} → List A → Option A
first [] = None
first (x ∷ s) = Some x

-- the stack without it
abbrev pub others : {A : Type 0} → List A → List A
others [] = []
others (x ∷ s) = s

-- ── laws ──

module _ {A : Type 0} where
  pub piled_none : (l : List A) → piled 0 l ≡ []
  unfolding piled
  piled_none l = refl

  pub piled_length : (l : List A) (n : ℕ) → n ≤ length l → length (piled n l) ≡ n
  unfolding piled
  piled_length l n h = length-reverse (take n l) ∙ omega (arith, length-take n l)

  -- one more
  pub piled_more : (l : List A) (x : A) (n : ℕ) → n < length l → piled (n + 1) (set l n x) ≡ x ∷ piled n l
  unfolding piled
  piled_more l x n h = rw (add-one, take-suc-set l n x h) (reverse-append (take n l) (x ∷ []))

  -- the last taken off
  pub piled_last : (l : List A) (n : ℕ) (d : A) {s : List A} → ¬ (n ≡ 0) → n ≤ length l → piled n l ≡ s → s ≡ get_or l (n - 1) d ∷ piled (n - 1) l
  unfolding piled
  piled_last l zero d z h e = absurd (z refl)
  piled_last l (suc n) d z h e =
      let k : suc n - 1 ≡ n = omega arith in
      rw k (sym e ∙ ap reverse (take-suc l n d (omega arith)) ∙ reverse-append (take n l) (get_or l n d ∷ []))

  -- none to take
  pub piled_empty : (l : List A) (n : ℕ) {s : List A} → n ≡ 0 → piled n l ≡ s → s ≡ []
  piled_empty l n z e = sym e ∙ ap (λ (k : ℕ). piled k l) z ∙ piled_none l
