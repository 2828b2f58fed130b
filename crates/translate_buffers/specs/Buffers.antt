-- Buffers zeroed and copied cell by cell, whatever the cells are. Laws for the loops; assumes nothing.
use Rattle.std.specs.Prelude.{◌≡◌, refl, List, [], ◌∷◌, ◌++◌, ℕ, suc, ◌+◌, ◌-◌, ◌<◌, ◌≤◌, length, get_or, take, drop, set, replicate}
use Rattle.std.proofs.Common.{sym, ◌∙◌, append_assoc, append-nil, arith, add-one, take-suc-set, take_all, take-suc, drop-cons, length-take-le}
use Rattle.std.proofs.lemmas.List.{set_at}

module _ {A : Type 0} (z : A) where
  -- zeroed from i on, z being the cells' zero
  unfoldable pub cleared : List A → ℕ → ℕ → List A
  cleared t i size = take i t ++ replicate (size - i) z

  -- one cell more
  pub cleared_more : (t : List A) (i size : ℕ) → i < length t → length t ≡ size → cleared (set t i z) (i + 1) size ≡ cleared t i size
  unfolding cleared
  cleared_more t i size h e =
      let q : size - i ≡ suc (size - suc i) = omega arith in
      rw (add-one, take-suc-set t i z h, q) (append_assoc (take i t) (z ∷ []) (replicate (size - suc i) z))

  -- all cells
  pub cleared_all : (t : List A) (i size : ℕ) → size ≤ i → length t ≡ size → cleared t i size ≡ t
  unfolding cleared
  cleared_all t i size h e =
      let q : size - i ≡ 0 = omega arith in
      let l : length t ≤ i = omega arith in
      rw (q, take_all i t l) (append-nil t)

module _ {A : Type 0} where
  -- the first i cells of another
  unfoldable pub copied : List A → List A → ℕ → List A
  copied from to i = take i from ++ drop i to

  pub copied_none : (from to : List A) → copied from to 0 ≡ to
  unfolding copied
  copied_none from to = refl

  pub copied_more : (z : A) (from to : List A) (i : ℕ) → i < length from → i < length to → set (copied from to i) i (get_or from i z) ≡ copied from to (i + 1)
  unfolding copied
  copied_more z from to i h k =
      rw (add-one, take-suc from i z h, drop-cons to i z k)
      (set_at (take i from) (get_or to i z) (drop (suc i) to) (get_or from i z) i (length-take-le i from (omega arith)) ∙ sym (append_assoc (take i from) (get_or from i z ∷ []) (drop (suc i) to)))
