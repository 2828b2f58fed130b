-- A name is looked up right and with few comparisons: the lookup finds what the table gives, after two comparisons at most. Laws; rests on Words, WordLookup and Runs.
use Rattle.std.specs.Prelude.{◌≡◌, refl, Bool, true, false, List, [], ◌∷◌, ◌⊎◌, ℕ, suc, ◌≤◌, eqb, leb, length, get_or, Some}
use Rattle.std.proofs.Common.{inl, inr, ⊎_elim, arith, eqb-true, leb-true}
use Rattle.std.proofs.lemmas.Bool.{eqb-false}
use Rattle.arm_word.specs.Ascii.{ascii}
use Rattle.arm_word.specs.Choice.{pick}
use Rattle.arm_word.specs.ChoiceLaws.{by_test, both}
use Rattle.x_spelling.specs.Words.{same, Entry, reserved, first_match}
use Rattle.x_spelling.specs.WordLookup.{candidate, keep, candidates, candidates_of, looked, compare, look_up}
use Rattle.x_spelling.specs.Runs.{same_length, same_first}
use Rattle.x_spelling.specs.ReservedWordLaws.{compared_among, every}

-- a name is the same as none but its candidates
missed : (w : List ℕ) (e : Entry) → candidate (length w) (get_or w 0 0) e ≡ false → same w e.bytes ≡ false
missed w e =
    by_test (λ t. pick t (eqb (get_or w 0 0) (get_or e.bytes 0 0)) false ≡ false → same w e.bytes ≡ false) (eqb (length w) (length e.bytes))
    (λ _ f. same_first w e.bytes (eqb-false _ _ f))
    (λ f _. same_length w e.bytes (eqb-false _ _ f))

found_among : (w : List ℕ) (es : List Entry) (n : ℕ) → (compare (candidates (length w) (get_or w 0 0) es) w n).found ≡ first_match es w
unfolding candidates compare first_match
found_among w [] n = refl
found_among w (e ∷ es) n = let left = candidates (length w) (get_or w 0 0) es in
    by_test (λ t. (compare (keep t e left) w n).found ≡ first_match (e ∷ es) w) (candidate (length w) (get_or w 0 0) e)
    (λ _. by_test (λ t. (pick t (looked (Some e.token) (suc n)) (compare left w (suc n))).found ≡ pick t (Some e.token) (first_match es w)) (same w e.bytes)
    (λ _. refl) (λ _. found_among w es (suc n)))
    (λ f. rw (missed w e f) (found_among w es n))

-- the lookup finds what the table gives
pub look_up_right : (w : List ℕ) → (look_up w).found ≡ first_match reserved w
look_up_right w = found_among w reserved 0

-- a word that has two candidates at most
few : Entry → Bool
few e = leb (length (candidates_of e.bytes)) 2

few_among : (n b : ℕ) (es : List Entry) → every few es ≡ true → (candidates n b es ≡ []) ⊎ (length (candidates n b reserved) ≤ 2)
unfolding candidates every few
few_among n b [] f = inl refl
few_among n b (e ∷ es) f = let (p, q) = both (few e) (every few es) f in
    by_test (λ t. (keep t e (candidates n b es) ≡ []) ⊎ (length (candidates n b reserved) ≤ 2)) (candidate n b e)
    (λ t. let (m, a) = both _ _ t in inr (rw (eqb-true n (length e.bytes) m, eqb-true b (get_or e.bytes 0 0) a) (leb-true _ 2 p)))
    (λ _. few_among n b es q)

-- "two at most"
pub two_at_most : (w : List ℕ) → (look_up w).compared ≤ 2
unfolding candidates reserved compare every few
two_at_most w = let h = compared_among (candidates_of w) w 0 in
    ⊎_elim (λ e. rw e (omega arith)) (λ l. omega arith) (few_among (length w) (get_or w 0 0) reserved refl)

-- the match is counted, and a name of no candidate is compared with none
pub worked_counts : ((look_up (ascii "if")).compared ≡ 1) × (((look_up (ascii "is")).compared ≡ 2) × (((look_up (ascii "it")).compared ≡ 2) × ((look_up (ascii "x")).compared ≡ 0)))
unfolding same reserved candidates compare
worked_counts = (refl, (refl, (refl, refl)))
