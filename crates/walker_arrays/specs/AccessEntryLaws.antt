-- One access more in the lent buffer. Laws; rests on Handed.
use Rattle.std.specs.Prelude.{◌≡◌, ℕ, ◌+◌, ◌-◌, ◌*◌, ◌/◌, ◌<◌, ◌≤◌, Bool, List, [], ◌∷◌, ◌++◌, length, take, drop, nat_lt, refl}
use Rattle.std.proofs.Common.{sym, ap, ap₂, ◌∙◌, arith, length-append, length-take, length-drop, drop_of_length-le, take_all, drop-drop, take_at, ltb-true, ltb-false}
use mathlib.Core.List.{append_assoc, append-nil}
use Rattle.std.proofs.lemmas.List.Edits.{sets, sets-eq}
use Rattle.std.proofs.Math.Seq.{drop-append-add}
use Rattle.std.proofs.lemmas.List.{take-append-le, drop-append-le}
use Rattle.arm_word.specs.Choice.{pick}
use Rattle.arm_word.specs.ChoiceLaws.{by_test}
use Rattle.arm_word.specs.Access.{Access}
use Rattle.walker_arrays.specs.AccessEntries.{entry_words, entry, entries, shown, handed}

-- a buffer with entry n written, if it has one
abbrev pub entered : List ℕ → ℕ → List ℕ → List ℕ
entered buffer n e = pick (nat_lt n (length buffer / entry_words)) (sets buffer (entry_words * n) e) buffer

entries_append : (l m : List Access) → entries (l ++ m) ≡ entries l ++ entries m
unfolding entries
entries_append [] m = refl
entries_append (a ∷ l) m = ap (λ (r : List ℕ). entry a ++ r) (entries_append l m) ∙ sym (append_assoc (entry a) (entries l) (entries m))

length_entries : (l : List Access) → length (entries l) ≡ entry_words * length l
unfolding entries
length_entries [] = refl
length_entries (a ∷ l) = omega (arith, length_entries l)

module _ (first : ℕ) (old : List ℕ) (l : List Access) (a : Access) where
  -- no entry is shown yet
  before : length l < first → handed first old (l ++ a ∷ []) ≡ handed first old l
  before h =
      let e = drop_of_length-le (l ++ a ∷ []) {i = first} (omega (arith, length-append l (a ∷ []))) in
      let f = drop_of_length-le l {i = first} (omega arith) in
      rw (e, f) refl

  -- those after the first, with one more
  later : first ≤ length l → drop first (l ++ a ∷ []) ≡ drop first l ++ a ∷ []
  later h = drop-append-le first l (a ∷ []) h

  -- all that fit are shown
  full : first ≤ length l → length old / entry_words ≤ length l - first → handed first old (l ++ a ∷ []) ≡ handed first old l
  full h b =
      let e : shown first (length old) (l ++ a ∷ []) ≡ shown first (length old) l =
      ap (take (length old / entry_words)) (later h) ∙ take-append-le (length old / entry_words) (drop first l) (a ∷ []) (omega (arith, length-drop first l)) in
      ap (λ (s : List Access). entries s ++ drop (length (entries s)) old) e

  -- one more fits
  module _ (h : first ≤ length l) (b : length l - first < length old / entry_words) where
    abbrev n : ℕ
    n = length l - first

    abbrev xs : List Access
    xs = drop first l

    shown_all : shown first (length old) l ≡ xs
    shown_all = take_all (length old / entry_words) xs (omega (arith, length-drop first l))

    shown_more : shown first (length old) (l ++ a ∷ []) ≡ xs ++ a ∷ []
    shown_more = ap (take (length old / entry_words)) (later h) ∙ take_all (length old / entry_words) (xs ++ a ∷ []) (omega (arith, length-append xs (a ∷ []), length-drop first l))

    shown_length : length (entries xs) ≡ entry_words * n
    shown_length = length_entries xs ∙ omega (arith, length-drop first l)

    now : handed first old l ≡ entries xs ++ drop (entry_words * n) old
    now = ap (λ (s : List Access). entries s ++ drop (length (entries s)) old) shown_all ∙ ap (λ (k : ℕ). entries xs ++ drop k old) shown_length

    one : entries (a ∷ []) ≡ entry a
    unfolding entries
    one = append-nil (entry a)

    then : handed first old (l ++ a ∷ []) ≡ entries xs ++ (entry a ++ drop (entry_words * n + 4) old)
    then =
        let e : entries (xs ++ a ∷ []) ≡ entries xs ++ entry a = entries_append xs (a ∷ []) ∙ ap (λ (r : List ℕ). entries xs ++ r) one in
        let k : length (entries xs ++ entry a) ≡ entry_words * n + 4 = length-append (entries xs) (entry a) ∙ omega (arith, shown_length) in
        ap (λ (s : List Access). entries s ++ drop (length (entries s)) old) shown_more
        ∙ ap (λ (r : List ℕ). r ++ drop (length r) old) e
        ∙ ap (λ (i : ℕ). (entries xs ++ entry a) ++ drop i old) k
        ∙ append_assoc (entries xs) (entry a) (drop (entry_words * n + 4) old)

    room : entry_words * n + 4 ≤ length (entries xs ++ drop (entry_words * n) old)
    room = omega (arith, length-append (entries xs) (drop (entry_words * n) old), shown_length, length-drop (entry_words * n) old)

    written : sets (handed first old l) (entry_words * n) (entry a) ≡ handed first old (l ++ a ∷ [])
    written =
        let d : drop (entry_words * n + 4) (entries xs ++ drop (entry_words * n) old) ≡ drop (entry_words * n + 4) old =
        ap (λ (k : ℕ). drop (k + 4) (entries xs ++ drop (entry_words * n) old)) (sym shown_length)
        ∙ drop-append-add (entries xs) (drop (entry_words * n) old) 4
        ∙ drop-drop 4 (entry_words * n) old in
        ap (λ (r : List ℕ). sets r (entry_words * n) (entry a)) now
        ∙ sets-eq (entry a) (entries xs ++ drop (entry_words * n) old) (entry_words * n) room
        ∙ ap₂ (λ (x y : List ℕ). x ++ entry a ++ y) (take_at (entries xs) (drop (entry_words * n) old) (entry_words * n) shown_length) d
        ∙ append_assoc (entries xs) (entry a) (drop (entry_words * n + 4) old)
        ∙ sym then

-- the buffer keeps its length
shown_fits : (first : ℕ) (old : List ℕ) (l : List Access) → entry_words * length (shown first (length old) l) ≤ length old
shown_fits first old l = omega (arith, length-take (length old / entry_words) (drop first l))

pub handed_length : (first : ℕ) (old : List ℕ) (l : List Access) → length (handed first old l) ≡ length old
handed_length first old l =
    let s = shown first (length old) l in
    length-append (entries s) (drop (length (entries s)) old) ∙ omega (arith, length_entries s, length-drop (length (entries s)) old, shown_fits first old l)

-- an access before those that are shown
pub skipped : (first : ℕ) (old : List ℕ) (l : List Access) (a : Access) {buffer : List ℕ} {total : ℕ} → buffer ≡ handed first old l → total ≡ length l → total < first
    → buffer ≡ handed first old (l ++ a ∷ [])
skipped first old l a e t h = e ∙ sym (before first old l a (omega (arith, t)))

-- one of those
pub listed : (first : ℕ) (old : List ℕ) (l : List Access) (a : Access) {buffer : List ℕ} {total : ℕ} → buffer ≡ handed first old l → total ≡ length l → first ≤ total
    → entered buffer (total - first) (entry a) ≡ handed first old (l ++ a ∷ [])
listed first old l a {buffer} {total} e t h =
    let n : total - first ≡ length l - first = omega (arith, t) in
    rw (e, n, handed_length first old l)
    (by_test (λ (b : Bool). nat_lt (length l - first) (length old / entry_words) ≡ b
    → pick b (sets (handed first old l) (entry_words * (length l - first)) (entry a)) (handed first old l) ≡ handed first old (l ++ a ∷ []))
    (nat_lt (length l - first) (length old / entry_words))
    (λ _ z. written first old l a (omega (arith, t)) (ltb-true (length l - first) (length old / entry_words) z))
    (λ _ z. sym (full first old l a (omega (arith, t)) (ltb-false (length l - first) (length old / entry_words) z)))
    refl)
