-- Laws of lists of ranges: a number finds the range that has it, if they stand in order; ranges that follow on one another have every number once. Rests on Ranges.
use Rattle.std.specs.Prelude.{◌≡◌, ℕ, zero, suc, ◌+◌, ◌<◌, ◌≤◌, Bool, true, false, List, [], ◌∷◌, length, ◌==◌, nat_le, nat_lt, slice_index_or}
use Rattle.std.proofs.Math.Path.{refl}
use Rattle.std.proofs.Common.{ap, le_of_suc-le-suc, not-suc-le-zero, arith}
use Rattle.std.proofs.Math.Bool.{and-false}
use Rattle.std.proofs.Math.Logic.{⊎_elim}
use borrow.Author.Tests.{le-leb, lt-leb, leb-true, leb-false, ltb-true, eqb-true}
use Rattle.arm_word.specs.Choice.{pick}
use Rattle.arm_word.specs.ChoiceLaws.{by_test, pick_and, both, either}
use Rattle.arm_word.specs.Ranges.{from_to, Range, range, has, look}

-- ── a number and a range ──

pub inside : (first last x : ℕ) → first ≤ x → x ≤ last → from_to first last x ≡ true
inside first last x l u = rw (le-leb first x l, le-leb x last u)

below : (first last x : ℕ) → x < first → from_to first last x ≡ false
below first last x l = rw (lt-leb first x l)

pub above : (first last x : ℕ) → last < x → from_to first last x ≡ false
above first last x l = rw (lt-leb x last l) (and-false (nat_le first x))

pub bounds : (first last x : ℕ) → from_to first last x ≡ true → (first ≤ x) × (x ≤ last)
bounds first last x e = let w = both (nat_le first x) (nat_le x last) (rw pick_and e) in (leb-true first x w.0, leb-true x last w.1)

module _ {A : Type 0} where
  -- ── in order ──

  -- every range starts above e
  unfoldable pub after : ℕ → List (Range A) → Bool
  after e [] = true
  after e (r ∷ more) = pick (nat_lt e r.first) (after e more) false

  unfoldable pub ordered : List (Range A) → Bool
  ordered [] = true
  ordered (r ∷ more) = pick (after r.last more) (ordered more) false

  after_at : (e : ℕ) (rs : List (Range A)) (d : Range A) (k : ℕ) → after e rs ≡ true → k < length rs → e < (slice_index_or rs k d).first
  unfolding after
  after_at e [] d k o p = absurd (not-suc-le-zero p)
  after_at e (r ∷ more) d zero o p = ltb-true e r.first (both (nat_lt e r.first) (after e more) o).0
  after_at e (r ∷ more) d (suc k) o p = after_at e more d k (both (nat_lt e r.first) (after e more) o).1 (le_of_suc-le-suc p)

  -- what range k says of its numbers
  pub hit : (given : A) (rs : List (Range A)) (d : Range A) (k x : ℕ) → ordered rs ≡ true → k < length rs → (slice_index_or rs k d).first ≤ x → x ≤ (slice_index_or rs k d).last
      → look given rs x ≡ (slice_index_or rs k d).value
  unfolding look ordered
  hit given [] d k x o p l u = absurd (not-suc-le-zero p)
  hit given (r ∷ more) d zero x o p l u = rw (inside r.first r.last x l u)
  hit given (r ∷ more) d (suc k) x o p l u =
      let w = both (after r.last more) (ordered more) o in
      let g = after_at r.last more d k w.0 (le_of_suc-le-suc p) in
      rw (above r.first r.last x (omega arith)) (hit given more d k x w.1 (le_of_suc-le-suc p) l u)

  -- ── what is given ──

  -- every range that meets lo to hi says what `is` holds of
  unfoldable pub plain : (A → Bool) → ℕ → ℕ → List (Range A) → Bool
  plain is lo hi [] = true
  plain is lo hi (r ∷ more) = pick (pick (nat_lt r.last lo) true (pick (nat_lt hi r.first) true (is r.value))) (plain is lo hi more) false

  -- if that is what is given anyway, a number from lo to hi finds it
  pub miss : (given : A) (is : A → Bool) → ((a : A) → is a ≡ true → a ≡ given) → (rs : List (Range A)) (lo hi x : ℕ) → plain is lo hi rs ≡ true → lo ≤ x → x ≤ hi
      → look given rs x ≡ given
  unfolding look plain
  miss given is same [] lo hi x o l u = refl
  miss given is same (r ∷ more) lo hi x o l u =
      let w = both (pick (nat_lt r.last lo) true (pick (nat_lt hi r.first) true (is r.value))) (plain is lo hi more) o in
      by_test (λ t. pick t r.value (look given more x) ≡ given) (has r x)
      (λ i.
      let v = bounds r.first r.last x i in
      ⊎_elim (λ e. absurd (omega (arith, ltb-true r.last lo e)))
      (λ e. ⊎_elim (λ f. absurd (omega (arith, ltb-true hi r.first f))) (λ f. same r.value f) (either (nat_lt hi r.first) (is r.value) e))
      (either (nat_lt r.last lo) (pick (nat_lt hi r.first) true (is r.value)) w.0))
      (λ _. miss given is same more lo hi x w.1 l u)

  -- ── what is found ──

  -- what holds of every range's value, if the range has x
  infixr 20 ◌and◌
  pub data Says (P : A → Type 0) (x : ℕ) : List (Range A) → Type 0 where
    done : Says P x []
    ◌and◌ : {r : Range A} {more : List (Range A)} → (r.first ≤ x → x ≤ r.last → P r.value) → Says P x more → Says P x (r ∷ more)

  pub found : (P : A → Type 0) (given : A) (rs : List (Range A)) (x : ℕ) → Says P x rs → P given → P (look given rs x)
  unfolding look
  found P given [] x s g = g
  found P given (r ∷ more) x (f and s) g =
      by_test (λ t. P (pick t r.value (look given more x))) (has r x)
      (λ e. let w = bounds r.first r.last x e in f w.0 w.1)
      (λ _. found P given more x s g)

  -- a test that all values pass
  unfoldable pub every : (A → Bool) → List (Range A) → Bool
  every p [] = true
  every p (r ∷ more) = pick (p r.value) (every p more) false

  pub passes : (p : A → Bool) (given : A) (rs : List (Range A)) (x : ℕ) → every p rs ≡ true → p given ≡ true → p (look given rs x) ≡ true
  unfolding every
  passes p given rs x e g = found (λ a. p a ≡ true) given rs x (each rs e) g
    where
      each : (rs : List (Range A)) → every p rs ≡ true → Says (λ a. p a ≡ true) x rs
      each [] e = done
      each (r ∷ more) e = let w = both (p r.value) (every p more) e in (λ _ _. w.0) and each more w.1

  -- ── how many ranges have a number ──

  unfoldable pub holding : List (Range A) → ℕ → ℕ
  holding [] x = 0
  holding (r ∷ more) x = pick (has r x) 1 0 + holding more x

  -- where none has it, what is given is found
  pub held_by_none : (given : A) (rs : List (Range A)) (x : ℕ) → holding rs x ≡ 0 → look given rs x ≡ given
  unfolding look holding
  held_by_none given [] x = λ _. refl
  held_by_none given (r ∷ more) x =
      by_test (λ t. pick t 1 0 + holding more x ≡ 0 → pick t r.value (look given more x) ≡ given) (has r x)
      (λ _ e. absurd (omega arith))
      (λ _ e. held_by_none given more x (omega arith))

  -- each range begins where the one before it ended: all numbers from lo up to hi
  unfoldable pub tiles : ℕ → ℕ → List (Range A) → Bool
  tiles lo hi [] = lo == hi
  tiles lo hi (r ∷ more) = pick (r.first == lo) (pick (nat_le lo r.last) (tiles (r.last + 1) hi more) false) false

  held_later : (rs : List (Range A)) (lo hi x : ℕ) → tiles lo hi rs ≡ true → x < lo → holding rs x ≡ 0
  unfolding tiles holding
  held_later [] lo hi x o l = refl
  held_later (r ∷ more) lo hi x o l =
      let w = both (r.first == lo) (pick (nat_le lo r.last) (tiles (r.last + 1) hi more) false) o in
      let v = both (nat_le lo r.last) (tiles (r.last + 1) hi more) w.1 in
      let f = eqb-true r.first lo w.0 in
      let g = leb-true lo r.last v.0 in
      rw (below r.first r.last x (omega arith)) (omega (arith, held_later more (r.last + 1) hi x v.1 (omega arith)))

  -- every number of them is in exactly one range
  pub held_once : (rs : List (Range A)) (lo hi x : ℕ) → tiles lo hi rs ≡ true → lo ≤ x → x < hi → holding rs x ≡ 1
  unfolding tiles holding
  held_once [] lo hi x o l u = absurd (omega (arith, eqb-true lo hi o))
  held_once (r ∷ more) lo hi x o l u =
      let w = both (r.first == lo) (pick (nat_le lo r.last) (tiles (r.last + 1) hi more) false) o in
      let v = both (nat_le lo r.last) (tiles (r.last + 1) hi more) w.1 in
      let f = eqb-true r.first lo w.0 in
      by_test (λ _. pick (has r x) 1 0 + holding more x ≡ 1) (nat_le x r.last)
      (λ e.
      let g = leb-true x r.last e in
      rw (inside r.first r.last x (omega arith) g, held_later more (r.last + 1) hi x v.1 (omega arith)))
      (λ e.
      let g = leb-false x r.last e in
      rw (above r.first r.last x g) (omega (arith, held_once more (r.last + 1) hi x v.1 (omega arith) u)))

-- ── two lists in one ──

-- ranges without what they say
unfoldable pub bare : {A : Type 0} → List (Range A) → List (Range (Unit {0}))
bare [] = []
bare (r ∷ more) = range r.first r.last tt ∷ bare more

-- a range before the first that starts later
unfoldable pub insert : Range (Unit {0}) → List (Range (Unit {0})) → List (Range (Unit {0}))
insert r [] = r ∷ []
insert r (s ∷ more) = pick (nat_lt r.first s.first) (r ∷ s ∷ more) (s ∷ insert r more)

unfoldable pub merge : List (Range (Unit {0})) → List (Range (Unit {0})) → List (Range (Unit {0}))
merge [] ss = ss
merge (r ∷ more) ss = insert r (merge more ss)

holding_bare : {A : Type 0} (rs : List (Range A)) (x : ℕ) → holding (bare rs) x ≡ holding rs x
unfolding bare holding
holding_bare [] x = refl
holding_bare (r ∷ more) x = ap (λ (n : ℕ). pick (has r x) 1 0 + n) (holding_bare more x)

holding_insert : (r : Range (Unit {0})) (ss : List (Range (Unit {0}))) (x : ℕ) → holding (insert r ss) x ≡ pick (has r x) 1 0 + holding ss x
unfolding insert holding
holding_insert r [] x = refl
holding_insert r (s ∷ more) x =
    by_test (λ t. holding (pick t (r ∷ s ∷ more) (s ∷ insert r more)) x ≡ pick (has r x) 1 0 + (pick (has s x) 1 0 + holding more x)) (nat_lt r.first s.first)
    (λ _. refl)
    (λ _. omega (arith, holding_insert r more x))

holding_merge : (rs ss : List (Range (Unit {0}))) (x : ℕ) → holding (merge rs ss) x ≡ holding rs x + holding ss x
unfolding merge holding
holding_merge [] ss x = omega arith
holding_merge (r ∷ more) ss x = omega (arith, holding_insert r (merge more ss) x, holding_merge more ss x)

-- two lists that together have all numbers from lo up to hi, each once
pub held_by_one : {A B : Type 0} (rs : List (Range A)) (ss : List (Range B)) (lo hi x : ℕ) → tiles lo hi (merge (bare rs) (bare ss)) ≡ true → lo ≤ x → x < hi
    → holding rs x + holding ss x ≡ 1
held_by_one rs ss lo hi x o l u =
    let one = held_once (merge (bare rs) (bare ss)) lo hi x o l u in
    omega (arith, holding_merge (bare rs) (bare ss) x, holding_bare rs x, holding_bare ss x)
