-- The name table's arrays as the entries of a scope, the latest first. Definitions and laws; rests on the scope of crate `x_names`.
use Rattle.std.specs.Prelude.{◌≡◌, Bool, true, false, eqb, get_or, take, drop, set}
use Rattle.std.proofs.Math.Path.{refl}
use Rattle.std.proofs.Common.{ap, arith}
use mathlib.Core.List.{List, [], ◌∷◌}
use Prim.Native.Nat.{ℕ, zero, suc, ◌-◌, ◌<◌, ◌≤◌}
use Rattle.std.proofs.Math.ListN.{length}
use Rattle.std.proofs.Math.Seq.{get_or-set_same, get_or-set_other}
use Rattle.arm_word.specs.Choice.{pick}
use Rattle.x_names.specs.Scope.{Entry, same, lookup}
use Rattle.x_names.specs.Scope as scope
use Rattle.front_names_table.specs.Sorts as name_sort
use Rattle.front_names_table.specs.declared.Meaning.{Meaning}
use Rattle.front_names_table.specs.declared.Meaning.TheVariants.{Unknown, Variable, Array, Constant}

-- what a name stands for but for offset and length, which are in its row and which the code doesn't keep
abbrev pub bare : scope.Meaning → scope.Meaning
bare scope.unknown = scope.unknown
bare (scope.variable v) = scope.variable (record { row = v.row; offset = 0 })
bare (scope.array a) = scope.array (record { row = a.row; offset = 0; length = 0 })
bare (scope.constant w) = scope.constant w

-- the code's answer, as what a name stands for
abbrev pub meant : Meaning → scope.Meaning
meant Unknown = scope.unknown
meant (Variable row) = scope.variable (record { row = row; offset = 0 })
meant (Array row) = scope.array (record { row = row; offset = 0; length = 0 })
meant (Constant word) = scope.constant word

-- the bytes of a name
abbrev pub text : List ℕ → ℕ → ℕ → List ℕ
text source place length = take length (drop place source)

-- by the token arrays: the bytes of token t, a name's value being its length, and its place
abbrev pub text_at : List ℕ → List ℕ → List ℕ → ℕ → List ℕ
text_at source places values t = text source (get_or places t 0) (get_or values t 0)

abbrev pub place_at : List ℕ → ℕ → ℕ
place_at places t = get_or places t 0

-- Expected form: "The name table is filled arrays of 256 source places, lengths and declaration rows"; a name's sort (Sorts)
-- and its word, the word offset or a val's word. Its size, an array's length, is in no array of the code: the contracts say what they say for every list of sizes
pub record Table : Type 0 where
  pub places : List ℕ
  pub lengths : List ℕ
  pub rows : List ℕ
  pub sorts : List ℕ
  pub words : List ℕ
  pub sizes : List ℕ

abbrev pub by_sort : ℕ → ℕ → ℕ → ℕ → scope.Meaning
by_sort sort row word size =
    pick (eqb sort name_sort.var) (scope.variable (record { row = row; offset = word }))
    (pick (eqb sort name_sort.array) (scope.array (record { row = row; offset = word; length = size })) (scope.constant word))

-- as the code sees it
abbrev pub seen_by : ℕ → ℕ → ℕ → Meaning
seen_by sort row word = pick (eqb sort name_sort.var) (Variable row) (pick (eqb sort name_sort.array) (Array row) (Constant word))

seen_bare : (sort row word size : ℕ) → meant (seen_by sort row word) ≡ bare (by_sort sort row word size)
seen_bare sort row word size = by (eqb sort name_sort.var) (eqb sort name_sort.array)
  where
    by : (a b : Bool)
        → meant (pick a (Variable row) (pick b (Array row) (Constant word)))
        ≡ bare (pick a (scope.variable (record { row = row; offset = word })) (pick b (scope.array (record { row = row; offset = word; length = size })) (scope.constant word)))
    by true b = refl
    by false true = refl
    by false false = refl

-- name k
abbrev pub meaning_at : Table → ℕ → scope.Meaning
meaning_at t k = by_sort (get_or t.sorts k 0) (get_or t.rows k 0) (get_or t.words k 0) (get_or t.sizes k 0)

pub seen_at : (t : Table) (k : ℕ) → meant (seen_by (get_or t.sorts k 0) (get_or t.rows k 0) (get_or t.words k 0)) ≡ bare (meaning_at t k)
seen_at t k = seen_bare (get_or t.sorts k 0) (get_or t.rows k 0) (get_or t.words k 0) (get_or t.sizes k 0)

abbrev pub name_at : List ℕ → Table → ℕ → List ℕ
name_at source t k = text source (get_or t.places k 0) (get_or t.lengths k 0)

abbrev pub entry_at : List ℕ → Table → ℕ → Entry
entry_at source t k = record { name = name_at source t k; meaning = meaning_at t k }

-- the first `count` names, the latest first
unfoldable pub view : List ℕ → Table → ℕ → List Entry
view source t zero = []
view source t (suc k) = entry_at source t k ∷ view source t k

-- a name more at k
abbrev pub with_name : Table → ℕ → ℕ → ℕ → ℕ → ℕ → ℕ → ℕ → Table
with_name t k place length row sort word size = record {
  places = set t.places k place;
  lengths = set t.lengths k length;
  rows = set t.rows k row;
  sorts = set t.sorts k sort;
  words = set t.words k word;
  sizes = set t.sizes k size;
}

-- the arrays have a place k
pub record Has (t : Table) (k : ℕ) : Type 0 where
  pub places : k < length t.places
  pub lengths : k < length t.lengths
  pub rows : k < length t.rows
  pub sorts : k < length t.sorts
  pub words : k < length t.words
  pub sizes : k < length t.sizes

-- one step of the search
pub lookup_found : (source n : List ℕ) (t : Table) (k : ℕ) → 0 < k → same (name_at source t (k - 1)) n ≡ true → lookup (view source t k) n ≡ meaning_at t (k - 1)
unfolding view lookup
lookup_found source n t zero h e = absurd (omega arith)
lookup_found source n t (suc k) h e = let q : suc k - 1 ≡ k = omega arith in rw q (rw (rw q at e))

pub lookup_next : (source n : List ℕ) (t : Table) (k : ℕ) → 0 < k → same (name_at source t (k - 1)) n ≡ false → lookup (view source t k) n ≡ lookup (view source t (k - 1)) n
unfolding view lookup
lookup_next source n t zero h e = absurd (omega arith)
lookup_next source n t (suc k) h e = let q : suc k - 1 ≡ k = omega arith in rw q (rw (rw q at e))

pub lookup_none : (source n : List ℕ) (t : Table) (k : ℕ) → k ≤ 0 → lookup (view source t k) n ≡ scope.unknown
unfolding view lookup
lookup_none source n t zero h = refl
lookup_none source n t (suc k) h = absurd (omega arith)

-- a name more leaves the earlier ones
module _ (source : List ℕ) (t : Table) (n place length row sort word size : ℕ) where
  view_kept : (k : ℕ) → k ≤ n → view source (with_name t n place length row sort word size) k ≡ view source t k
  unfolding view
  view_kept zero h = refl
  view_kept (suc k) h =
      rw (
        get_or-set_other t.places n k place 0 (omega arith),
        get_or-set_other t.lengths n k length 0 (omega arith),
        get_or-set_other t.rows n k row 0 (omega arith),
        get_or-set_other t.sorts n k sort 0 (omega arith),
        get_or-set_other t.words n k word 0 (omega arith),
        get_or-set_other t.sizes n k size 0 (omega arith),
      )
      (ap (λ (es : List Entry). entry_at source t k ∷ es) (view_kept k (omega arith)))

  pub view_more : Has t n
      → view source (with_name t n place length row sort word size) (suc n) ≡ record { name = text source place length; meaning = by_sort sort row word size } ∷ view source t n
  unfolding view
  view_more h =
      rw (
        get_or-set_same t.places n place 0 h.places,
        get_or-set_same t.lengths n length 0 h.lengths,
        get_or-set_same t.rows n row 0 h.rows,
        get_or-set_same t.sorts n sort 0 h.sorts,
        get_or-set_same t.words n word 0 h.words,
        get_or-set_same t.sizes n size 0 h.sizes,
      )
      (ap (λ (es : List Entry). record { name = text source place length; meaning = by_sort sort row word size } ∷ es) (view_kept n (omega arith)))

-- lists as a table
abbrev pub arrays : List ℕ → List ℕ → List ℕ → List ℕ → List ℕ → List ℕ → Table
arrays places lengths rows sorts words sizes = record { places = places; lengths = lengths; rows = rows; sorts = sorts; words = words; sizes = sizes }
