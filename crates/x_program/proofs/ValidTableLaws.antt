-- A row that fits has words that fit, and a table that can be run is one of such rows. Laws; rests on ValidTable and FittingRows.
use Rattle.std.specs.Prelude.{◌≡◌, refl, Bool, true, ◌&&◌, List, ℕ, zero, suc, ◌-◌, ◌*◌, ◌%◌, ◌≤◌, ◌<◌, length, eqb, ltb}
use Rattle.std.proofs.Common.{arith, eqb-true, ltb-true, ltb-false, leb-true}
use Rattle.std.proofs.lemmas.Bool.{eqb-false}
use Rattle.arm_word.specs.ChoiceLaws.{by_test, pick_and, both}
use Rattle.arm_word.specs.RangeLaws.{bounds}
use Rattle.x_program.specs.Layout.{row_words}
use Rattle.x_program.specs.Layout as layout
use Rattle.x_program.specs.Table.{word}
use Rattle.x_program.specs.ValidTable.{shape, data_before, earlier, fits, row_fits, rows_fit, rows_in, data_in, valid}
use Rattle.x_program.specs.FittingRows.{Earlier, Fit, Fitting, Valid}
use Rattle.x_program.specs.declared.Field.{Field}
use Rattle.x_program.specs.declared.Field.TheVariants.{Unknown, Variable, Array, Value, Process, Monadic, Diadic, Offset, One, Length, Word, Unused}

-- both parts of a test that is true
parts : {a b : Bool} → (a && b) ≡ true → (a ≡ true) × (b ≡ true)
parts {a} {b} e = both a b (rw pick_and e)

-- ── a row's words ──

named : (t : List ℕ) (r s low high : ℕ) → earlier t r s low high ≡ true → Earlier low high t r s
named t r s low high e =
    let p = parts e in
    let b = bounds low high (word t s 0) p.1 in
    record { earlier = ltb-true s r p.0; from = b.0; to = b.1 }

fit : (t : List ℕ) (r : ℕ) (f : Field) (w : ℕ) → fits t r (data_before t r) f w ≡ true → Fit t r f w
fit t r Unknown w e = let z : ◌≡◌ {A = ℕ} 0 1 = cc in omega arith
fit t r Variable w e = named t r w layout.var layout.var e
fit t r Array w e = named t r w layout.array layout.array e
fit t r Value w e = named t r w layout.number layout.diadic e
fit t r Process w e = named t r w layout.skip layout.while e
fit t r Monadic w e = bounds 1 2 w e
fit t r Diadic w e = bounds 1 14 w e
fit t r Offset w e = eqb-true w (data_before t r) e
fit t r One w e = eqb-true w 1 e
fit t r Length w e = bounds 1 8192 w e
fit t r Word w e = tt
fit t r Unused w e = eqb-true w 0 e

pub row_words_fit : (t : List ℕ) (r k : ℕ) → row_fits t r ≡ true → word t r 0 ≡ k → Fitting t r k
row_words_fit t r k e h =
    let s = shape (word t r 0) in
    let p = parts e in
    let q = parts p.1 in
    let f : Fitting t r (word t r 0) = (fit t r s.a (word t r 1) p.0, fit t r s.b (word t r 2) q.0, fit t r s.c (word t r 3) q.1) in
    rw h at f

-- ── a row's kind, by cases ──

-- which of the values' five kinds it is
pub value_kinds : {P : Type 0} (k : ℕ) → layout.number ≤ k → k ≤ layout.diadic
    → (k ≡ layout.number → P) → (k ≡ layout.variable → P) → (k ≡ layout.element → P) → (k ≡ layout.monadic → P) → (k ≡ layout.diadic → P) → P
value_kinds {P} k l h number variable element monadic diadic =
    by_test (λ _. P) (eqb k layout.number) (λ e. number (eqb-true k layout.number e)) (λ a.
    by_test (λ _. P) (eqb k layout.variable) (λ e. variable (eqb-true k layout.variable e)) (λ b.
    by_test (λ _. P) (eqb k layout.element) (λ e. element (eqb-true k layout.element e)) (λ c.
    by_test (λ _. P) (eqb k layout.monadic) (λ e. monadic (eqb-true k layout.monadic e)) (λ d.
    diadic (omega (arith, eqb-false k layout.number a, eqb-false k layout.variable b, eqb-false k layout.element c, eqb-false k layout.monadic d))))))

-- which of the processes' seven
pub process_kinds : {P : Type 0} (k : ℕ) → layout.skip ≤ k → k ≤ layout.while
    → (k ≡ layout.skip → P) → (k ≡ layout.stop → P) → (k ≡ layout.assign → P) → (k ≡ layout.assign_element → P) → (k ≡ layout.sequence → P) → (k ≡ layout.if → P) → (k ≡ layout.while → P)
    → P
process_kinds {P} k l h skip stop assign assign_element sequence if while =
    by_test (λ _. P) (eqb k layout.skip) (λ e. skip (eqb-true k layout.skip e)) (λ a.
    by_test (λ _. P) (eqb k layout.stop) (λ e. stop (eqb-true k layout.stop e)) (λ b.
    by_test (λ _. P) (eqb k layout.assign) (λ e. assign (eqb-true k layout.assign e)) (λ c.
    by_test (λ _. P) (eqb k layout.assign_element) (λ e. assign_element (eqb-true k layout.assign_element e)) (λ d.
    by_test (λ _. P) (eqb k layout.sequence) (λ e. sequence (eqb-true k layout.sequence e)) (λ f.
    by_test (λ _. P) (eqb k layout.if) (λ e. if (eqb-true k layout.if e)) (λ g.
    while (omega (
      arith,
      eqb-false k layout.skip a,
      eqb-false k layout.stop b,
      eqb-false k layout.assign c,
      eqb-false k layout.assign_element d,
      eqb-false k layout.sequence f,
      eqb-false k layout.if g,
    ))))))))

-- ── data ──

-- a row before another has no more words declared before it
pub data_grows : (t : List ℕ) (n m : ℕ) → n ≤ m → data_before t n ≤ data_before t m
unfolding data_before
data_grows t n zero h = let z : n ≡ 0 = omega arith in rw z (omega arith)
data_grows t n (suc m) h =
    by_test (λ (b : Bool). ltb n (suc m) ≡ b → data_before t n ≤ data_before t (suc m)) (ltb n (suc m))
    (λ _ e. omega (arith, data_grows t n m (omega (arith, ltb-true n (suc m) e))))
    (λ _ e. let z : n ≡ suc m = omega (arith, ltb-false n (suc m) e) in rw z (omega arith))
    refl

-- ── a valid table ──

each_fits : (t : List ℕ) (n r : ℕ) → rows_fit t n ≡ true → r < n → row_fits t r ≡ true
unfolding rows_fit
each_fits t zero r e h = absurd (omega arith)
each_fits t (suc n) r e h =
    let p = parts e in
    by_test (λ (c : Bool). ltb r n ≡ c → row_fits t r ≡ true) (ltb r n)
    (λ _ z. each_fits t n r p.0 (ltb-true r n z))
    (λ _ z. let q : r ≡ n = omega (arith, ltb-false r n z) in rw q p.1)
    refl

whole_rows : (t : List ℕ) → length t % row_words ≡ 0 → length t ≡ row_words * rows_in t
whole_rows t e = omega arith

pub valid_table : (t : List ℕ) → valid t ≡ true → Valid t
unfolding valid
valid_table t e =
    let a = parts e in
    let b = parts a.1 in
    let c = parts b.1 in
    let d = parts c.1 in
    let f = parts d.1 in
    let l = bounds layout.skip layout.while (word t (rows_in t - 1) 0) f.1 in
    record {
      whole = whole_rows t (eqb-true (length t % row_words) 0 a.0);
      few = leb-true (rows_in t) 1024 b.0;
      fitting = λ r h. each_fits t (rows_in t) r c.0 h;
      small = leb-true (data_in t) 8192 d.0;
      some = ltb-true 0 (rows_in t) f.0;
      from = l.0;
      to = l.1;
    }
