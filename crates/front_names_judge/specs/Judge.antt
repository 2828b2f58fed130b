-- One specification, from its tokens: what it deserves and what it declares, in the words that the code reads. Definitions and laws.
-- Rests on the scope and the complaints of crate `x_names`.
use Rattle.std.specs.Prelude.{◌≡◌, refl, Bool, true, false, List, [], ◌∷◌, ◌++◌, eqb, ltb, get_or, Result, Ok, Err}
use Rattle.std.proofs.Common.{sym, ap, ap₂, ◌∙◌, arith, add-zero}
use Prim.Native.Nat.{ℕ, ◌+◌, ◌≤◌}
use Rattle.arm_word.specs.Choice.{pick}
use Rattle.x_spelling.specs.Kinds as kind
use Rattle.x_tokens.specs.Refusals as refusal
use Rattle.x_grammar.specs.Grammar.{Specification, val}
use Rattle.x_grammar.specs.Grammar as grammar
use Rattle.x_program.specs.Tree as tree
use Rattle.x_program.specs.Rows.{row, declared_rows}
use Rattle.x_names.specs.Scope.{Meaning, unknown, variable, array, constant, Scope, meaning_of, constant_word, declare}
use Rattle.x_names.specs.Complaints.{Complaint, Verdict, fine, refused, is_known, as_constant, when, bad_length, at, of_constant, has_word, of_specification}
use Rattle.x_names.specs.FirstComplaint.{first}
use Rattle.front_names_table.specs.Sorts as name_sort
use Rattle.x_names.specs.Resolve.{declared}
use Rattle.front_names_table.specs.View.{bare, by_sort}
use Rattle.x_tokens.specs.declared.refusal.Reason.{Reason}
use Rattle.x_tokens.specs.declared.refusal.Refusal.{Refusal}
use Rattle.front_names_table.specs.declared.Sort.TheVariants.{Var, Array, Val}
use Rattle.front_names_judge.specs.declared.Item.{Item}

-- the code's answer as a verdict
abbrev pub verdict_of : {A : Type 0} → Result A Refusal → Verdict
verdict_of (Ok x) = fine
verdict_of (Err r) = refused (record { number = refusal.number r.reason; place = r.place })

-- the first of two verdicts
abbrev pub or_else : Verdict → Verdict → Verdict
or_else fine v = v
or_else (refused c) v = refused c

pub first_append : (xs ys : List Complaint) → first (xs ++ ys) ≡ or_else (first xs) (first ys)
first_append [] ys = refl
first_append (x ∷ xs) ys = refl

pub first_none : (xs : List Complaint) → first (xs ++ []) ≡ first xs
first_none [] = refl
first_none (x ∷ xs) = refl

-- complaints of one place
abbrev pub listed : ℕ → List ℕ → List Complaint
listed p [] = []
listed p (k ∷ ks) = record { number = k; place = p } ∷ listed p ks

-- data or names over the limit
abbrev pub over : ℕ → ℕ → ℕ → Bool
over names words more = pick (ltb 255 names) true (ltb 8192 (words + more))

-- a constant as it is read: 0 and its word, or the number of its complaint
pub record Constant : Type 0 where
  pub status : ℕ
  pub word : ℕ

-- as the code reads it
abbrev pub read_as : Result ℕ Reason → Constant
read_as (Ok w) = record { status = 0; word = w }
read_as (Err r) = record { status = refusal.number r; word = 0 }

abbrev pub constant_by : Meaning → Constant
constant_by unknown = record { status = refusal.not_declared; word = 0 }
constant_by (variable v) = record { status = refusal.wrong_kind; word = 0 }
constant_by (array a) = record { status = refusal.wrong_kind; word = 0 }
constant_by (constant w) = record { status = 0; word = w }

abbrev pub constant_read : (ℕ → List ℕ) → Scope → grammar.Constant → Constant
constant_read text s (grammar.literal w) = record { status = 0; word = w }
constant_read text s (grammar.named n) = constant_by (meaning_of text s n)

-- no complaint, or one
abbrev pub some : ℕ → List ℕ
some status = pick (eqb status 0) [] (status ∷ [])

-- what the name of a specification deserves and then its constant: k the specification's kind, m what the name stands for already
unfoldable pub complaints_by : ℕ → Meaning → ℕ → ℕ → ℕ → ℕ → ℕ → ℕ → List Complaint
complaints_by k m status word names words p q =
    pick (eqb k kind.var) (listed p (when (is_known m) refusal.declared_twice ++ when (over names words 1) refusal.too_much))
    (pick (eqb k kind.array)
    (listed p (when (is_known m) refusal.declared_twice
    ++ pick (eqb status 0) (when (bad_length word) refusal.bad_length ++ when (over names words word) refusal.too_much) (when (over names words 0) refusal.too_much))
    ++ listed q (some status))
    (listed p (when (is_known m) refusal.declared_twice ++ when (over names words 0) refusal.too_much) ++ listed q (some status)))

-- offset and length matter to neither
pub constant_bare : (m : Meaning) → constant_by (bare m) ≡ constant_by m
constant_bare unknown = refl
constant_bare (variable v) = refl
constant_bare (array a) = refl
constant_bare (constant w) = refl

pub complaints_bare : (k : ℕ) (m : Meaning) (status word names words p q : ℕ) → complaints_by k (bare m) status word names words p q ≡ complaints_by k m status word names words p q
unfolding complaints_by
complaints_bare k unknown status word names words p q = refl
complaints_bare k (variable v) status word names words p q = refl
complaints_bare k (array a) status word names words p q = refl
complaints_bare k (constant w) status word names words p q = refl

-- what a specification enters: the name's sort, its row, its word and size; and how many rows and words it declares
unfoldable pub item_of : ℕ → ℕ → ℕ → ℕ → Item
item_of k word rows words =
    pick (eqb k kind.var) (record { sort = Var; row = rows; word = words; size = 1; rows = 1; words = 1 })
    (pick (eqb k kind.array) (record { sort = Array; row = rows; word = words; size = word; rows = 1; words = word })
    (record { sort = Val; row = 0; word = word; size = 0; rows = 0; words = 0 }))

-- the row of the syntax table that it makes, if any
abbrev pub item_row : Item → List ℕ
item_row e = pick (eqb (name_sort.number e.sort) name_sort.val) [] (row (name_sort.number e.sort) e.word e.size 0)

-- the specification at token i, which is no comment
abbrev pub constant_at : List ℕ → List ℕ → ℕ → grammar.Constant
constant_at kinds values j = pick (eqb (get_or kinds j 0) kind.number) (grammar.literal (get_or values j 0)) (grammar.named j)

abbrev pub specification_at : List ℕ → List ℕ → ℕ → Specification
specification_at kinds values i =
    pick (eqb (get_or kinds i 0) kind.var) (grammar.var (i + 1))
    (pick (eqb (get_or kinds i 0) kind.array) (grammar.array (i + 1) (constant_at kinds values (i + 3))) (val (i + 1) (constant_at kinds values (i + 3))))

-- and how many tokens it has, with its `;`
abbrev pub width : ℕ → ℕ
width k = pick (eqb k kind.var) 3 (pick (eqb k kind.array) 6 5)

module _ (text : ℕ → List ℕ) (place : ℕ → ℕ) (s : Scope) where
  at_listed : (n : ℕ) (ks : List ℕ) → at text place n ks ≡ listed (place n) ks
  at_listed n [] = refl
  at_listed n (k ∷ ks) = ap (λ (cs : List Complaint). record { number = k; place = place n } ∷ cs) (at_listed n ks)

  as_some : (m : Meaning) → as_constant m ≡ some (constant_by m).status
  as_some unknown = refl
  as_some (variable v) = refl
  as_some (array a) = refl
  as_some (constant w) = refl

  -- a constant's complaint, by its status; its place is that of its token
  constant_listed : (kinds values : List ℕ) (j : ℕ) → of_constant text place s (constant_at kinds values j) ≡ listed (place j) (some (constant_read text s (constant_at kinds values j)).status)
  constant_listed kinds values j = by (eqb (get_or kinds j 0) kind.number)
    where
      by : (b : Bool)
          → of_constant text place s (pick b (grammar.literal (get_or values j 0)) (grammar.named j))
          ≡ listed (place j) (some (constant_read text s (pick b (grammar.literal (get_or values j 0)) (grammar.named j))).status)
      by true = refl
      by false = at_listed j (as_constant (meaning_of text s j)) ∙ ap (listed (place j)) (as_some (meaning_of text s j))

  word_by : (c : grammar.Constant) → (constant_read text s c).word ≡ constant_word text s c
  word_by (grammar.literal w) = refl
  word_by (grammar.named n) = by (meaning_of text s n)
    where
      by : (m : Meaning) → (constant_by m).word ≡ Rattle.x_names.specs.Scope.word_of m
      by unknown = refl
      by (variable v) = refl
      by (array a) = refl
      by (constant w) = refl

  known_by : (c : grammar.Constant) → has_word text place s c ≡ eqb (constant_read text s c).status 0
  known_by (grammar.literal w) = refl
  known_by (grammar.named n) = by (meaning_of text s n) refl
    where
      by : (m : Meaning) → meaning_of text s n ≡ m → has_word text place s (grammar.named n) ≡ eqb (constant_by m).status 0
      by unknown e = rw e
      by (variable v) e = rw e
      by (array a) e = rw e
      by (constant w) e = rw e

  module _ (kinds values : List ℕ) (i : ℕ) where
    abbrev k : ℕ
    k = get_or kinds i 0

    abbrev c : grammar.Constant
    c = constant_at kinds values (i + 3)

    -- THE LAW of complaints
    pub specified_complaints : of_specification text place (specification_at kinds values i) s
        ≡ complaints_by k (meaning_of text s (i + 1)) (constant_read text s c).status (constant_read text s c).word s.names s.words (place (i + 1)) (place (i + 3))
    unfolding complaints_by
    specified_complaints = by (eqb k kind.var) (eqb k kind.array)
      where
        m : Meaning
        m = meaning_of text s (i + 1)

        st : ℕ
        st = (constant_read text s c).status

        w : ℕ
        w = (constant_read text s c).word

        numbers : Bool → ℕ → List ℕ
        numbers h v = when (is_known m) refusal.declared_twice
            ++ pick h (when (bad_length v) refusal.bad_length ++ when (over s.names s.words v) refusal.too_much) (when (over s.names s.words 0) refusal.too_much)

        by : (a b : Bool) → of_specification text place (pick a (grammar.var (i + 1)) (pick b (grammar.array (i + 1) c) (val (i + 1) c))) s
            ≡ pick a (listed (place (i + 1)) (when (is_known m) refusal.declared_twice ++ when (over s.names s.words 1) refusal.too_much))
            (pick b
            (listed (place (i + 1))
            (when (is_known m) refusal.declared_twice
            ++ pick (eqb st 0) (when (bad_length w) refusal.bad_length ++ when (over s.names s.words w) refusal.too_much) (when (over s.names s.words 0) refusal.too_much))
            ++ listed (place (i + 3)) (some st))
            (listed (place (i + 1)) (when (is_known m) refusal.declared_twice ++ when (over s.names s.words 0) refusal.too_much) ++ listed (place (i + 3)) (some st)))
        by true b = at_listed (i + 1) (when (is_known m) refusal.declared_twice ++ when (over s.names s.words 1) refusal.too_much)
        by false true =
            ap₂ ◌++◌ (at_listed (i + 1) (numbers (has_word text place s c) (constant_word text s c)) ∙ ap (listed (place (i + 1))) (ap₂ numbers (known_by c) (sym (word_by c))))
            (constant_listed kinds values (i + 3))
        by false false = ap₂ ◌++◌ (at_listed (i + 1) (when (is_known m) refusal.declared_twice ++ when (over s.names s.words 0) refusal.too_much)) (constant_listed kinds values (i + 3))

    abbrev e : Item
    e = item_of k (constant_read text s c).word s.rows s.words

    -- THE LAW of what is declared
    pub specified_scope : declare text (specification_at kinds values i) s
        ≡ record {
          entries = record { name = text (i + 1); meaning = by_sort (name_sort.number e.sort) e.row e.word e.size } ∷ s.entries;
          rows = s.rows + e.rows;
          names = s.names + 1;
          words = s.words + e.words;
        }
    unfolding item_of
    specified_scope = rw (word_by c) (by (eqb k kind.var) (eqb k kind.array))
      where
        w : ℕ
        w = constant_word text s c

        it : Bool → Bool → Item
        it a b =
            pick a (record { sort = Var; row = s.rows; word = s.words; size = 1; rows = 1; words = 1 })
            (pick b (record { sort = Array; row = s.rows; word = s.words; size = w; rows = 1; words = w })
            (record { sort = Val; row = 0; word = w; size = 0; rows = 0; words = 0 }))

        by : (a b : Bool) → declare text (pick a (grammar.var (i + 1)) (pick b (grammar.array (i + 1) c) (val (i + 1) c))) s
            ≡ record {
              entries = record { name = text (i + 1); meaning = by_sort (name_sort.number (it a b).sort) (it a b).row (it a b).word (it a b).size } ∷ s.entries;
              rows = s.rows + (it a b).rows;
              names = s.names + 1;
              words = s.words + (it a b).words;
            }
        by true b = refl
        by false true = refl
        by false false = refl

    pub specified_rows : (ds : List tree.Declaration) → declared_rows (declared text (specification_at kinds values i) s ds) s.words ≡ item_row e ++ declared_rows ds (s.words + e.words)
    unfolding item_of declared_rows
    specified_rows ds = rw (word_by c) (by (eqb k kind.var) (eqb k kind.array))
      where
        w : ℕ
        w = constant_word text s c

        it : Bool → Bool → Item
        it a b =
            pick a (record { sort = Var; row = s.rows; word = s.words; size = 1; rows = 1; words = 1 })
            (pick b (record { sort = Array; row = s.rows; word = s.words; size = w; rows = 1; words = w })
            (record { sort = Val; row = 0; word = w; size = 0; rows = 0; words = 0 }))

        by : (a b : Bool)
            → declared_rows (declared text (pick a (grammar.var (i + 1)) (pick b (grammar.array (i + 1) c) (val (i + 1) c))) s ds) s.words
            ≡ item_row (it a b) ++ declared_rows ds (s.words + (it a b).words)
        by true b = refl
        by false true = refl
        by false false = rw (add-zero s.words)

pub width_small : (k : ℕ) → (1 ≤ width k) × (width k ≤ 6)
width_small k = by (eqb k kind.var) (eqb k kind.array)
  where
    by : (a b : Bool) → (1 ≤ pick a 3 (pick b 6 5)) × (pick a 3 (pick b 6 5) ≤ 6)
    by true b = (omega arith, omega arith)
    by false true = (omega arith, omega arith)
    by false false = (omega arith, omega arith)
