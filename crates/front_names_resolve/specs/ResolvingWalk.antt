-- The walk over the raw rows of a table: each is resolved where it stands, and the least complaint so far is kept. Definitions and laws; assumes nothing.
use Rattle.std.specs.Prelude.{◌≡◌, Bool, length, get_or, set, take, drop, eqb, Option, None, Some}
use Rattle.std.proofs.Math.Path.{refl, ap, ap₂}
use Rattle.std.proofs.Common.{sym, ◌∙◌, get_or-set_other, eq-eqb, ne_eqb, lt-ltb, le-ltb, le-leb}
use Rattle.std.proofs.Math.Bool.{true, false}
use mathlib.Core.List.{List, [], ◌∷◌}
use Prim.Native.Nat.{ℕ, zero, suc, ◌+◌, ◌-◌, ◌*◌, ◌≤◌, ◌<◌}
use native.Mathlib.Omega.{arith}
use Rattle.std.proofs.Math.Seq.{sets}
use Rattle.std.proofs.lemmas.Bool.{lt-leb}
use Rattle.arm_word.specs.Choice.{pick}
use Rattle.x_tokens.specs.Refusals as refusal
use Rattle.x_grammar.specs.RawRowLaws.{sets_rows}
use Rattle.x_program.specs.Layout.{row_words}
use Rattle.x_program.specs.Layout as layout
use Rattle.x_program.specs.Rows.{row}
use Rattle.x_program.specs.Table.{word, row_in}
use Rattle.x_program.specs.declared.table.Row.{Row}
use Rattle.x_program.specs.TableReadBack.{Holds}
use Rattle.x_names.specs.Scope.{Meaning, unknown, variable, array, constant, Entry, Scope, lookup, word_of, meaning_of}
use Rattle.x_names.specs.Complaints.{as_value, as_target, as_array, at, Verdict, fine, refused, least}
use Rattle.x_names.specs.RowComplaints.{lesser_of, lesser_of_comm, lesser_of_assoc, least_append, numbers_of, row_complaints}
use Rattle.front_names_table.specs.Sorts as name_sort
use Rattle.x_names.specs.ResolvedRows.{declared_row, value_row, names_one, resolve_rows}
use Rattle.front_names_table.specs.View.{bare, text_at, place_at}
use Rattle.x_tokens.specs.declared.refusal.Reason.{Reason}
use Rattle.x_tokens.specs.declared.refusal.Refusal.{Refusal}

-- a number at a place, 0 for none
abbrev pub judged_by : ℕ → ℕ → Verdict
judged_by n p = pick (eqb n 0) fine (refused (record { number = n; place = p }))

-- the code's reason, by number
abbrev pub numbered : Option Reason → ℕ
numbered None = 0
numbered (Some r) = refusal.number r

-- the code's verdict
abbrev pub verdict : Option Refusal → Verdict
verdict None = fine
verdict (Some r) = refused (record { number = refusal.number r.reason; place = r.place })

-- a scope with these entries
abbrev pub scope_of : List Entry → Scope
scope_of es = record { entries = es; rows = 0; names = 0; words = 0 }

-- a row whose name stands for m
abbrev pub row_by : ℕ → Meaning → ℕ → ℕ → ℕ → List ℕ
row_by k m a b c = pick (eqb k layout.variable) (value_row m) (row k (pick (names_one k) (declared_row m) a) b c)

-- what a name stands for, by sort
abbrev pub sort_of : Meaning → ℕ
sort_of unknown = name_sort.undeclared
sort_of (variable v) = name_sort.var
sort_of (array a) = name_sort.array
sort_of (constant w) = name_sort.val

-- 8, or 10 for a sort that is wrong, or that is not the right one
unfoldable pub unless : ℕ → ℕ → ℕ
unless sort wrong = pick (eqb sort name_sort.undeclared) refusal.not_declared (pick (eqb sort wrong) refusal.wrong_kind 0)

unfoldable pub only : ℕ → ℕ → ℕ
only sort right = pick (eqb sort name_sort.undeclared) refusal.not_declared (pick (eqb sort right) 0 refusal.wrong_kind)

-- by the row's kind: a value, a target, an array
unfoldable pub complaint : ℕ → ℕ → ℕ
complaint k sort = pick (eqb k layout.variable) (unless sort name_sort.array)
    (pick (eqb k layout.assign) (only sort name_sort.var) (pick (eqb k layout.element) (only sort name_sort.array) (pick (eqb k layout.assign_element) (only sort name_sort.array) 0)))

-- row r of a table, its name standing for m
abbrev pub resolved_by : Meaning → List ℕ → ℕ → List ℕ
resolved_by m t r = sets t (row_words * r) (row_by (word t r 0) m (word t r 1) (word t r 2) (word t r 3))

pub record Walked : Type 0 where
  pub table : List ℕ
  pub found : Verdict

abbrev pub walked : List ℕ → Verdict → Walked
walked t v = record { table = t; found = v }

module _ (text : ℕ → List ℕ) (place : ℕ → ℕ) (s : Scope) where
  -- row r of a table, resolved
  abbrev pub resolved_at : List ℕ → ℕ → List ℕ
  resolved_at t r = resolved_by (meaning_of text s (word t r 1)) t r

  abbrev pub verdict_at : List ℕ → ℕ → Verdict
  verdict_at t r = judged_by (complaint (word t r 0) (sort_of (meaning_of text s (word t r 1)))) (place (word t r 1))

  -- n rows from r on
  unfoldable pub walk : ℕ → List ℕ → ℕ → Verdict → Walked
  walk zero t r v = walked t v
  walk (suc n) t r v = walk n (resolved_at t r) (r + 1) (lesser_of v (verdict_at t r))

-- the walk looks at the entries of its scope alone
pub walk_entries : (text : ℕ → List ℕ) (place : ℕ → ℕ) (s : Scope) (n : ℕ) (t : List ℕ) (r : ℕ) (v : Verdict) → walk text place (scope_of s.entries) n t r v ≡ walk text place s n t r v
unfolding walk
walk_entries text place s zero t r v = refl
walk_entries text place s (suc n) t r v = walk_entries text place s n _ _ _

-- ── laws: the lesser of two verdicts, by the code's tests ──
module _ (n p m q : ℕ) where
  pub lesser_first : n ≡ 0 → judged_by m q ≡ lesser_of (judged_by n p) (judged_by m q)
  lesser_first e = rw (eq-eqb n 0 e)

  pub lesser_second : ¬ (n ≡ 0) → m ≡ 0 → judged_by n p ≡ lesser_of (judged_by n p) (judged_by m q)
  lesser_second e f = rw (ne_eqb n 0 e, eq-eqb m 0 f)

  pub lesser_place : ¬ (n ≡ 0) → ¬ (m ≡ 0) → p < q → judged_by n p ≡ lesser_of (judged_by n p) (judged_by m q)
  lesser_place e f h = rw (ne_eqb n 0 e, ne_eqb m 0 f, lt-ltb p q h)

  pub lesser_number : ¬ (n ≡ 0) → ¬ (m ≡ 0) → p ≡ q → n ≤ m → judged_by n p ≡ lesser_of (judged_by n p) (judged_by m q)
  lesser_number e f h k = rw (ne_eqb n 0 e, ne_eqb m 0 f, le-ltb p q (omega arith), eq-eqb p q h, le-leb n m k)

  pub lesser_later : ¬ (n ≡ 0) → ¬ (m ≡ 0) → q ≤ p → ¬ (p ≡ q) → judged_by m q ≡ lesser_of (judged_by n p) (judged_by m q)
  lesser_later e f h k = rw (ne_eqb n 0 e, ne_eqb m 0 f, le-ltb p q h, ne_eqb p q k)

  pub lesser_greater : ¬ (n ≡ 0) → ¬ (m ≡ 0) → p ≡ q → m < n → judged_by m q ≡ lesser_of (judged_by n p) (judged_by m q)
  lesser_greater e f h k = rw (ne_eqb n 0 e, ne_eqb m 0 f, le-ltb p q (omega arith), eq-eqb p q h, lt-leb n m k)

-- ── laws: a row by its kind and what its name stands for ──
pub word_zero : (t : List ℕ) (r : ℕ) → word t r 0 ≡ get_or t (row_words * r) 0
word_zero t r = ap (λ (i : ℕ). get_or t i 0) (omega arith)

module _ (k : ℕ) (m : Meaning) (a b c : ℕ) where
  pub row_constant : k ≡ layout.variable → sort_of m ≡ name_sort.val → row layout.number (word_of m) 0 0 ≡ row_by k m a b c
  row_constant e f = rw (eq-eqb k layout.variable e) (by m f)
    where
      by : (m : Meaning) → sort_of m ≡ name_sort.val → row layout.number (word_of m) 0 0 ≡ value_row m
      by unknown f = absurd (omega arith)
      by (variable v) f = absurd (omega arith)
      by (array v) f = absurd (omega arith)
      by (constant w) f = refl

  pub row_value : k ≡ layout.variable → ¬ (sort_of m ≡ name_sort.val) → row layout.variable (declared_row m) 0 0 ≡ row_by k m a b c
  row_value e f = rw (eq-eqb k layout.variable e) (by m f)
    where
      by : (m : Meaning) → ¬ (sort_of m ≡ name_sort.val) → row layout.variable (declared_row m) 0 0 ≡ value_row m
      by unknown f = refl
      by (variable v) f = refl
      by (array v) f = refl
      by (constant w) f = absurd (f refl)

  pub row_named : ¬ (k ≡ layout.variable) → names_one k ≡ true → row k (declared_row m) b c ≡ row_by k m a b c
  row_named e f = rw (ne_eqb k layout.variable e, f)

  pub row_plain : ¬ (k ≡ layout.variable) → names_one k ≡ false → row k a b c ≡ row_by k m a b c
  row_plain e f = rw (ne_eqb k layout.variable e, f)

-- offset and length matter to neither
pub row_bare : (k : ℕ) (m : Meaning) (a b c : ℕ) → row_by k (bare m) a b c ≡ row_by k m a b c
row_bare k unknown a b c = refl
row_bare k (variable v) a b c = refl
row_bare k (array v) a b c = refl
row_bare k (constant w) a b c = refl

pub sort_bare : (m : Meaning) → sort_of (bare m) ≡ sort_of m
sort_bare unknown = refl
sort_bare (variable v) = refl
sort_bare (array v) = refl
sort_bare (constant w) = refl

-- ── laws: a turn of the loop, and its end ──
module _ (source places lengths : List ℕ) (es : List Entry) where
  abbrev pub walk_of : ℕ → List ℕ → ℕ → Verdict → Walked
  walk_of = walk (text_at source places lengths) (place_at places) (scope_of es)

  pub walk_turn : (t t' : List ℕ) (r end : ℕ) (v v' : Verdict) (w : Row) (p n : ℕ) (m : Meaning) → r < end → w ≡ row_in t r
      → p ≡ get_or places w.a 0 → n ≡ get_or lengths w.a 0 → m ≡ bare (lookup es (take n (drop p source)))
      → t' ≡ sets t (row_words * r) (row_by w.kind m w.a w.b w.c) → v' ≡ lesser_of v (judged_by (complaint w.kind (sort_of m)) p)
      → walk_of (end - r) t r v ≡ walk_of (end - (r + 1)) t' (r + 1) v'
  unfolding walk
  walk_turn t t' r end v v' w p n m l ew ep en em et ev =
      let z : end - r ≡ suc (end - (r + 1)) = omega arith in
      let x = lookup es (take n (drop p source)) in
      let et' : t' ≡ sets t (row_words * r) (row_by w.kind x w.a w.b w.c) =
      et ∙ ap (sets t (row_words * r)) (ap (λ (y : Meaning). row_by w.kind y w.a w.b w.c) em ∙ row_bare w.kind x w.a w.b w.c) in
      let ev' : v' ≡ lesser_of v (judged_by (complaint w.kind (sort_of x)) p) =
      ev ∙ ap (λ (y : ℕ). lesser_of v (judged_by (complaint w.kind y) p)) (ap sort_of em ∙ sort_bare x) in
      rw (z, et', ev', en, ep, ew) refl

  pub walk_end : (t : List ℕ) (r end : ℕ) (v : Verdict) → end ≤ r → walk_of (end - r) t r v ≡ walked t v
  unfolding walk
  walk_end t r end v l = let z : end - r ≡ 0 = omega arith in rw z

-- ── the walk over a program's raw rows ──

getD_set_past : (l : List ℕ) (i j v : ℕ) → i < j → get_or (set l i v) j 0 ≡ get_or l j 0
getD_set_past l i j v h = get_or-set_other l i j v 0 (λ e. omega arith)

pub getD_sets_past : (vs l : List ℕ) (i j : ℕ) → i + length vs ≤ j → get_or (sets l i vs) j 0 ≡ get_or l j 0
getD_sets_past [] l i j h = refl
getD_sets_past (v ∷ vs) l i j h = getD_sets_past vs (set l i v) (suc i) j (omega arith) ∙ getD_set_past l i j v (omega arith)

length_row_by : (k : ℕ) (m : Meaning) (a b c : ℕ) → length (row_by k m a b c) ≡ 4
length_row_by k m a b c = by (eqb k layout.variable) m
  where
    by : (x : Bool) (m : Meaning) → length (pick x (value_row m) (row k (pick (names_one k) (declared_row m) a) b c)) ≡ 4
    by true unknown = refl
    by true (variable v) = refl
    by true (array v) = refl
    by true (constant w) = refl
    by false m = refl

module _ (text : ℕ → List ℕ) (place : ℕ → ℕ) where
  value_verdict : (n : ℕ) (m : Meaning) → judged_by (unless (sort_of m) name_sort.array) (place n) ≡ least (at text place n (as_value m))
  unfolding unless least
  value_verdict n unknown = refl
  value_verdict n (variable v) = refl
  value_verdict n (array a) = refl
  value_verdict n (constant w) = refl

  target_verdict : (n : ℕ) (m : Meaning) → judged_by (only (sort_of m) name_sort.var) (place n) ≡ least (at text place n (as_target m))
  unfolding only least
  target_verdict n unknown = refl
  target_verdict n (variable v) = refl
  target_verdict n (array a) = refl
  target_verdict n (constant w) = refl

  array_verdict : (n : ℕ) (m : Meaning) → judged_by (only (sort_of m) name_sort.array) (place n) ≡ least (at text place n (as_array m))
  unfolding only least
  array_verdict n unknown = refl
  array_verdict n (variable v) = refl
  array_verdict n (array a) = refl
  array_verdict n (constant w) = refl

  row_verdict : (k n : ℕ) (m : Meaning) → judged_by (complaint k (sort_of m)) (place n) ≡ least (at text place n (numbers_of k m))
  unfolding complaint least
  row_verdict k n m = by (eqb k layout.variable) (eqb k layout.assign) (eqb k layout.element) (eqb k layout.assign_element)
    where
      by : (w x y z : Bool)
          → judged_by
          (pick w (unless (sort_of m) name_sort.array) (pick x (only (sort_of m) name_sort.var) (pick y (only (sort_of m) name_sort.array) (pick z (only (sort_of m) name_sort.array) 0))))
          (place n)
          ≡ least (at text place n (pick w (as_value m) (pick x (as_target m) (pick y (as_array m) (pick z (as_array m) [])))))
      by true x y z = value_verdict n m
      by false true y z = target_verdict n m
      by false false true z = array_verdict n m
      by false false false true = array_verdict n m
      by false false false false = refl

  module _ (s : Scope) where
    holds_after : (t : List ℕ) (r k a b c : ℕ) (m : Meaning) (xs : List ℕ) → Holds t r (k ∷ a ∷ b ∷ c ∷ xs) → Holds (sets t (row_words * r) (row_by k m a b c)) (r + 1) xs
    holds_after t r k a b c m xs h = record {
      at = λ j l.
          let z = length_row_by k m a b c in
          let e : row_words * (r + 1) + j ≡ row_words * r + suc (suc (suc (suc j))) = omega arith in
          getD_sets_past (row_by k m a b c) t (row_words * r) (row_words * (r + 1) + j) (omega arith) ∙ ap (λ (i : ℕ). get_or t i 0) e ∙ h.at (suc (suc (suc (suc j)))) (omega arith);
    }

    pub walk_rows : (n r : ℕ) (t xs : List ℕ) (v : Verdict) → length xs ≡ row_words * n → Holds t r xs
        → walk text place s n t r v ≡ walked (sets t (row_words * r) (resolve_rows text s xs)) (lesser_of v (least (row_complaints text place s xs)))
    unfolding walk resolve_rows row_complaints least
    walk_rows zero r t [] v l h = ap (walked t) (sym (lesser_of_comm v fine))
    walk_rows zero r t (x ∷ xs) v l h = absurd (omega arith)
    walk_rows (suc n) r t [] v l h = absurd (omega arith)
    walk_rows (suc n) r t (k ∷ []) v l h = absurd (omega arith)
    walk_rows (suc n) r t (k ∷ a ∷ []) v l h = absurd (omega arith)
    walk_rows (suc n) r t (k ∷ a ∷ b ∷ []) v l h = absurd (omega arith)
    walk_rows (suc n) r t (k ∷ a ∷ b ∷ c ∷ xs) v l h =
        let m = meaning_of text s a in
        let p = at text place a (numbers_of k m) in
        let q = row_complaints text place s xs in
        rw (h.at 0 (omega arith), h.at 1 (omega arith), h.at 2 (omega arith), h.at 3 (omega arith))
        (walk_rows n (r + 1) (sets t (row_words * r) (row_by k m a b c)) xs (lesser_of v (judged_by (complaint k (sort_of m)) (place a))) (omega arith) (holds_after t r k a b c m xs h)
        ∙ ap₂ walked (sets_rows (row_by k m a b c) t r 1 (r + 1) (resolve_rows text s xs) (length_row_by k m a b c) refl)
        (ap (λ (u : Verdict). lesser_of (lesser_of v u) (least q)) (row_verdict k a m) ∙ lesser_of_assoc v (least p) (least q) ∙ ap (lesser_of v) (sym (least_append p q))))
