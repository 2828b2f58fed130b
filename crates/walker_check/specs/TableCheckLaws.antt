-- The check of a table, row by row and test by test. Laws; rests on TableCheck.
use Rattle.std.specs.Prelude.{◌≡◌, Bool, true, false, ◌&&◌, List, length, Some, None}
use Rattle.std.proofs.Math.Path.{refl, sym}
use Rattle.std.proofs.Common.{ap, ◌∙◌, arith, add-one}
use Rattle.std.proofs.Math.Bool.{and-false}
use Prim.Native.Nat.{ℕ, zero, suc, ◌+◌, ◌*◌, ◌%◌, ◌≤◌, ◌<◌}
use Rattle.std.proofs.Math.Dec.{ltb}
use borrow.Author.Tests.{eq-eqb, ne_eqb, le-leb, lt-leb, ltb-true, ltb-false}
use Rattle.arm_word.specs.Choice.{pick}
use Rattle.arm_word.specs.ChoiceLaws.{by_test}
use Rattle.arm_word.specs.Ranges.{from_to}
use Rattle.arm_word.specs.RangeLaws.{bounds}
use Rattle.x_program.specs.Layout.{row_words}
use Rattle.x_program.specs.Layout as layout
use Rattle.x_program.specs.Table.{word, row_in}
use Rattle.x_program.specs.ValidTable.{shape, data_before, declared_in, row_fits, rows_fit, rows_in, data_in, valid}
use Rattle.x_program.proofs.ValidTableLaws.{row_words_fit}
use Rattle.x_program.specs.declared.table.Row.{Row}
use Rattle.walker_check.specs.TableCheck.{checked, words_fit, words_of, counted, ends_in_process}

-- a row that fits declares at most 8,192 words
declared_by : (t : List ℕ) (r k : ℕ) → row_fits t r ≡ true → word t r 0 ≡ k → 1 ≤ k → k ≤ 2 → word t r 2 ≤ 8192
declared_by t r zero e h l u = absurd (omega arith)
declared_by t r (suc zero) e h l u = unfold shape in omega (arith, (row_words_fit t r layout.var e h).1)
declared_by t r (suc (suc zero)) e h l u = unfold shape in omega (arith, (row_words_fit t r layout.array e h).1)
declared_by t r (suc (suc (suc k))) e h l u = absurd (omega arith)

few_words : (t : List ℕ) (r : ℕ) → row_fits t r ≡ true → declared_in t r ≤ 8192
few_words t r e =
    by_test (λ (b : Bool). pick b (word t r 2) 0 ≤ 8192) (from_to layout.var layout.array (word t r 0))
    (λ z. let b = bounds layout.var layout.array (word t r 0) z in declared_by t r (word t r 0) e refl b.0 b.1)
    (λ _. omega arith)

-- what the loop over the rows has found before row r
pub record Counting (t : List ℕ) (count r : ℕ) : Type 0 where
  pub fit : rows_fit t r ≡ true
  pub words : count ≡ data_before t r
  pub few : count ≤ 8192 * r

pub none_counted : (t : List ℕ) → Counting t 0 0
unfolding rows_fit data_before
none_counted t = record { fit = refl; words = refl; few = omega arith }

module _ (t : List ℕ) (count r : ℕ) (g : Counting t count r) (w : Row) (is : w ≡ row_in t r) where
  -- by what was counted, the row's words are tested as they should be
  row_tested : words_fit t r count w ≡ row_fits t r
  row_tested = rw (g.words, is) refl

  -- a row that doesn't fit refuses the table
  refuse_more : (n : ℕ) → r < n → row_fits t r ≡ false → rows_fit t n ≡ false
  unfolding rows_fit
  refuse_more zero h e = absurd (omega arith)
  refuse_more (suc n) h e =
      by_test (λ (b : Bool). ltb r n ≡ b → (rows_fit t n && row_fits t n) ≡ false) (ltb r n)
      (λ _ z. rw (refuse_more n (ltb-true r n z) e) refl)
      (λ _ z. let q : r ≡ n = omega (arith, ltb-false r n z) in rw (← q, g.fit, e) refl)
      refl

  pub refuses : (n : ℕ) → r < n → words_fit t r count w ≡ false → None ≡ counted t n
  unfolding counted
  refuses n h e = rw (refuse_more n h (sym row_tested ∙ e)) refl

  -- one that fits is counted
  pub words_few : words_fit t r count w ≡ true → words_of w ≤ 8192
  words_few e = rw is (few_words t r (sym row_tested ∙ e))

  pub counts : words_fit t r count w ≡ true → Counting t (count + words_of w) (r + 1)
  unfolding rows_fit data_before
  counts e = record {
    fit = rw (add-one, rows_fit, g.fit, sym row_tested ∙ e) refl;
    words = rw (add-one, data_before, g.words, is) refl;
    few = omega (arith, g.few, words_few e);
  }

pub all_counted : (t : List ℕ) (count r n : ℕ) → Counting t count r → r ≡ n → Some count ≡ counted t n
unfolding counted
all_counted t count r n g e = rw (← e, g.fit, g.words) refl

pub ruleset row_by_row = (refuses, words_few, counts, all_counted)

-- a refusal, or so many words, by a test
none_of : (b : Bool) (m : ℕ) → pick b (Some m) None ≡ None → b ≡ false
none_of true m e = let z : ◌≡◌ {A = ℕ} 0 1 = cc in absurd (omega arith)
none_of false m e = refl

all_of : (b : Bool) (m n : ℕ) → pick b (Some m) None ≡ Some n → (b ≡ true) × (n ≡ m)
all_of true m n e = (refl, cc)
all_of false m n e = let z : ◌≡◌ {A = ℕ} 0 1 = cc in absurd (omega arith)

-- the whole table, test by test
module _ (t : List ℕ) where
  pub part_row : ¬ (length t % row_words ≡ 0) → None ≡ checked t
  unfolding checked valid
  part_row h = rw (ne_eqb (length t % row_words) 0 h)

  pub many_rows : 1024 < rows_in t → None ≡ checked t
  unfolding checked valid
  many_rows h = rw (lt-leb (rows_in t) 1024 h, and-false)

  pub no_process : ends_in_process t (rows_in t) ≡ false → None ≡ checked t
  unfolding checked valid
  no_process e = rw (e, and-false, and-false, and-false, and-false)

  -- what the loop over the rows answers
  counted_none : counted t (rows_in t) ≡ None → rows_fit t (rows_in t) ≡ false
  unfolding counted
  counted_none e = none_of (rows_fit t (rows_in t)) (data_in t) e

  counted_all : (n : ℕ) → counted t (rows_in t) ≡ Some n → (rows_fit t (rows_in t) ≡ true) × (n ≡ data_in t)
  unfolding counted
  counted_all n e = all_of (rows_fit t (rows_in t)) (data_in t) n e

  pub bad_row : counted t (rows_in t) ≡ None → None ≡ checked t
  unfolding checked valid
  bad_row e = rw (counted_none e, and-false, and-false)

  pub much_data : (n : ℕ) → counted t (rows_in t) ≡ Some n → 8192 < n → None ≡ checked t
  unfolding checked valid
  much_data n e h = rw (lt-leb (data_in t) 8192 (omega (arith, (counted_all n e).1)), and-false, and-false, and-false)

  pub all_right : (n : ℕ) → length t % row_words ≡ 0 → rows_in t ≤ 1024 → ends_in_process t (rows_in t) ≡ true → counted t (rows_in t) ≡ Some n → n ≤ 8192 → Some n ≡ checked t
  unfolding checked valid
  all_right n a b c e d =
      let k = counted_all n e in
      rw (eq-eqb (length t % row_words) 0 a, le-leb (rows_in t) 1024 b, k.0, le-leb (data_in t) 8192 (omega (arith, k.1)), c) (ap Some k.1)

-- the reasons but the last
pub ruleset refusals = (part_row, many_rows, no_process, bad_row)

-- ── what an answer says of the table ──

module _ (t : List ℕ) where
  pub checked_refused : checked t ≡ None → valid t ≡ false
  unfolding checked
  checked_refused e = none_of (valid t) (data_in t) e

  pub checked_valid : (n : ℕ) → checked t ≡ Some n → (valid t ≡ true) × (n ≡ data_in t)
  unfolding checked
  checked_valid n e = all_of (valid t) (data_in t) n e
