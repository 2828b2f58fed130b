-- Runs of bytes, numerals, membership and sameness, byte by byte at an index. Laws.
-- Rests on Characters and Words.
use Rattle.std.specs.Prelude.{◌≡◌, refl, Bool, true, false, List, [], ◌∷◌, ℕ, suc, ◌+◌, ◌*◌, ◌<◌, ◌≤◌, min, eqb, ltb, length, get_or, drop, nat_eq, ◌&&◌, ◌||◌}
use Rattle.std.specs.List.{list_any}
use Rattle.std.proofs.Common.{ap, arith, mul-le-mul_left, mul-one, add-one}
use Rattle.std.proofs.Math.ListN.{drop_of_length-le}
use Rattle.std.proofs.Math.Seq.{drop-cons}
use borrow.Author.Tests.{eq-eqb, ne_eqb, eqb-true, ltb-true, ltb-false}
use Rattle.arm_word.specs.Choice.{pick}
use Rattle.arm_word.specs.ChoiceLaws.{pick_false, by_test, both}
use Rattle.x_spelling.specs.Characters.{one_of, in_class, digit, digit_value, span, numeral}
use lib.Pointwise.{pointwise}
use Rattle.x_spelling.specs.Words.{same}
use Rattle.x_spelling.specs.declared.Class.{Class}

module _ (s : List ℕ) (j : ℕ) where
  pub drop_one : j < length s → drop j s ≡ get_or s j 0 ∷ drop (j + 1) s
  drop_one h = rw (add-one, drop-cons s j 0 h)

  pub one_of_in : (b : ℕ) → j < length s → get_or s j 0 ≡ b → one_of (drop j s) b ≡ true
  unfolding one_of
  one_of_in b h e = rw (drop_one h, eq-eqb (get_or s j 0) b e)

  pub one_of_on : (b : ℕ) → j < length s → ¬ (get_or s j 0 ≡ b) → one_of (drop j s) b ≡ one_of (drop (j + 1) s) b
  unfolding one_of
  one_of_on b h e = rw (drop_one h, ne_eqb (get_or s j 0) b e)

  pub one_of_end : (b : ℕ) → length s ≤ j → one_of (drop j s) b ≡ false
  unfolding one_of
  one_of_end b h = rw (drop_of_length-le s h)

  pub span_in : (c : Class) → j < length s → in_class c (get_or s j 0) ≡ true → span c (drop j s) ≡ suc (span c (drop (j + 1) s))
  unfolding span
  span_in c h t = rw (drop_one h, t)

  pub span_out : (c : Class) → j < length s → in_class c (get_or s j 0) ≡ false → span c (drop j s) ≡ 0
  unfolding span
  span_out c h t = rw (drop_one h, t)

  pub span_end : (c : Class) → length s ≤ j → span c (drop j s) ≡ 0
  unfolding span
  span_end c h = rw (drop_of_length-le s h)

  pub numeral_in : (base a : ℕ) → j < length s → digit base (get_or s j 0) ≡ true → numeral base (drop j s) a ≡ numeral base (drop (j + 1) s) (a * base + digit_value (get_or s j 0))
  unfolding numeral
  numeral_in base a h t = rw (drop_one h, t)

  pub numeral_out : (base a : ℕ) → j < length s → digit base (get_or s j 0) ≡ false → numeral base (drop j s) a ≡ a
  unfolding numeral
  numeral_out base a h t = rw (drop_one h, t)

  pub numeral_end : (base a : ℕ) → length s ≤ j → numeral base (drop j s) a ≡ a
  unfolding numeral
  numeral_end base a h = rw (drop_of_length-le s h)

-- a multiple is at least the number
pub at_least_once : (a base : ℕ) → 1 ≤ base → a ≤ a * base
at_least_once a base h = let m = mul-le-mul_left a h in rw mul-one at m

-- digits that follow a number cut off at 2^32 make the same, cut off
pub push_cut : (base a b d : ℕ) → 1 ≤ base → min a 4294967296 ≡ min b 4294967296 → min (a * base + d) 4294967296 ≡ min (b * base + d) 4294967296
push_cut base a b d h e =
    by_test (λ _. min (a * base + d) 4294967296 ≡ min (b * base + d) 4294967296) (ltb a 4294967296)
    (λ t. let l = ltb-true a 4294967296 t in let q : a ≡ b = omega arith in ap (λ (n : ℕ). min (n * base + d) 4294967296) q)
    (λ t. let l = ltb-false a 4294967296 t in let x = at_least_once a base h in let y = at_least_once b base h in omega arith)

pub numeral_cut : (base : ℕ) → 1 ≤ base → (bs : List ℕ) (a b : ℕ) → min a 4294967296 ≡ min b 4294967296 → min (numeral base bs a) 4294967296 ≡ min (numeral base bs b) 4294967296
unfolding numeral
numeral_cut base h [] a b e = e
numeral_cut base h (x ∷ bs) a b e = go (digit base x) (numeral_cut base h bs (a * base + digit_value x) (b * base + digit_value x) (push_cut base a b (digit_value x) h e))
  where
    go : (t : Bool) → min (numeral base bs (a * base + digit_value x)) 4294967296 ≡ min (numeral base bs (b * base + digit_value x)) 4294967296
        → min (pick t (numeral base bs (a * base + digit_value x)) a) 4294967296 ≡ min (pick t (numeral base bs (b * base + digit_value x)) b) 4294967296
    go true i = i
    go false i = e

module _ (a b : List ℕ) (i : ℕ) where
  pub same_on : i < length a → i < length b → get_or a i 0 ≡ get_or b i 0 → same (drop i a) (drop i b) ≡ same (drop (i + 1) a) (drop (i + 1) b)
  unfolding same
  same_on h k e = rw (add-one, drop-cons a i 0 h, drop-cons b i 0 k, eq-eqb _ _ e)

  pub same_off : i < length a → i < length b → ¬ (get_or a i 0 ≡ get_or b i 0) → same (drop i a) (drop i b) ≡ false
  unfolding same
  same_off h k e = rw (drop-cons a i 0 h, drop-cons b i 0 k, ne_eqb _ _ e)

  pub same_end : length a ≤ i → length b ≤ i → same (drop i a) (drop i b) ≡ true
  unfolding same
  same_end h k = rw (drop_of_length-le a h, drop_of_length-le b k)

pub same_length : (a b : List ℕ) → ¬ (length a ≡ length b) → same a b ≡ false
unfolding same
same_length [] [] h = absurd (h refl)
same_length [] (y ∷ b) h = refl
same_length (x ∷ a) [] h = refl
same_length (x ∷ a) (y ∷ b) h = rw (same_length a b (λ e. h (ap suc e))) (pick_false (eqb x y))

-- what is the same has the same first byte
pub same_first : (a b : List ℕ) → ¬ (get_or a 0 0 ≡ get_or b 0 0) → same a b ≡ false
unfolding same
same_first [] [] h = absurd (h refl)
same_first [] (y ∷ b) h = refl
same_first (x ∷ a) [] h = refl
same_first (x ∷ a) (y ∷ b) h = by_test (λ t. pick t (same a b) false ≡ false) (eqb x y) (λ e. absurd (h (eqb-true x y e))) (λ e. refl)

-- what `contains` and `==` say of bytes
pub one_of_any : (xs : List ℕ) (b : ℕ) → list_any (λ y. nat_eq y b) xs ≡ one_of xs b
unfolding one_of
one_of_any [] b = refl
one_of_any (x ∷ xs) b = by_test (λ t. (t || list_any (λ y. nat_eq y b) xs) ≡ pick t true (one_of xs b)) (eqb x b) (λ _. refl) (λ _. one_of_any xs b)

pub same_pointwise : (a b : List ℕ) → pointwise nat_eq a b ≡ same a b
unfolding same
same_pointwise [] [] = refl
same_pointwise [] (y ∷ b) = refl
same_pointwise (x ∷ a) [] = refl
same_pointwise (x ∷ a) (y ∷ b) = by_test (λ t. (t && pointwise nat_eq a b) ≡ pick t (same a b) false) (eqb x y) (λ _. same_pointwise a b) (λ _. refl)

-- what is the same is equal, and the other way round
pub same_equal : (a b : List ℕ) → same a b ≡ true → a ≡ b
unfolding same
same_equal [] [] e = refl
same_equal [] (y ∷ b) e = cc
same_equal (x ∷ a) [] e = cc
same_equal (x ∷ a) (y ∷ b) e =
    let (p, q) = both (eqb x y) (same a b) e in
    let h = eqb-true x y p in
    let t = same_equal a b q in
    cc

pub same_itself : (a : List ℕ) → same a a ≡ true
unfolding same
same_itself [] = refl
same_itself (x ∷ a) = rw (eq-eqb x x refl) (same_itself a)

-- a run is no longer than what it stands in
pub span_length : (c : Class) (bs : List ℕ) → span c bs ≤ length bs
unfolding span
span_length c [] = omega arith
span_length c (b ∷ bs) = let h = span_length c bs in by_test (λ (t : Bool). pick t (suc (span c bs)) 0 ≤ suc (length bs)) (in_class c b) (λ t. omega arith) (λ t. omega arith)
