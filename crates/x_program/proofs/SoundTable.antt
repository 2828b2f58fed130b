-- A sound program's table can be run: each of its rows fits, and its data are the declared words. Laws; rests on ValidTable, Rows and Sound.
-- They are of any table that holds the program's rows: those that are translated stand in a longer buffer.
use Rattle.std.specs.Prelude.{◌≡◌, Bool, true, List, [], ◌∷◌, ◌++◌, ℕ, zero, suc, ◌+◌, ◌-◌, ◌*◌, ◌%◌, ◌≤◌, ◌<◌, get_or, ltb}
use Rattle.std.proofs.Math.Path.{refl}
use Rattle.std.proofs.Common.{ap, ◌∙◌}
use native.Mathlib.Omega.{arith}
use Rattle.std.proofs.Math.ListN.{length}
use borrow.Author.Tests.{eq-eqb, lt-ltb, le-leb, ltb-true, ltb-false}
use Rattle.arm_word.specs.ChoiceLaws.{by_test}
use Rattle.arm_word.specs.RangeLaws.{inside, above}
use Rattle.x_program.specs.Layout.{row_words}
use Rattle.x_program.specs.Layout as layout
use Rattle.x_program.specs.Tree as tree
use Rattle.x_program.specs.Tree.{negate, invert, plus, minus, times, bitwise_and, bitwise_or, bitwise_xor, right, left, equal, unequal, less, at_most, greater, at_least}
use Rattle.x_program.specs.Tree.{Declaration, var, array, words_of, data_words, Program}
use Rattle.x_program.specs.Core as core
use Rattle.x_program.specs.Core.{constant, variable, element, monadic, diadic, skip, stop, assign, assign_element, sequence, conditional, loop, core_process}
use Rattle.x_program.specs.Rows.{monadic_number, diadic_number, row, row_of, declared_rows, count, rows, count_process, rows_process, table_of, row_count}
use Rattle.x_program.specs.Table.{word, process_at}
use Rattle.x_program.specs.Sound.{Declares, here, later, Lengths, SoundExpression, SoundProcess, Sound, declared_row}
use Rattle.x_program.specs.TableReadBack.{Holds, front, behind, length_row_of, length_rows, some_rows, length_rows_process, some_rows_process, length_declared, length_table}
use Rattle.x_program.proofs.TableReadBack.{read_back}
use Rattle.x_program.specs.ValidTable.{shape, process_shape, declared_in, data_before, earlier, fits, row_fits, rows_fit, rows_in, data_in, valid}
use Rattle.x_program.specs.FittingRows.{Earlier, Fit}
use Rattle.x_program.specs.declared.Field.{Field}
use Rattle.x_program.specs.declared.Field.TheVariants.{Unknown, Variable, Array, Value, Process, Monadic, Diadic, Offset, One, Length, Word, Unused}

-- ── a row whose words are what they should be fits ──

-- the reverse of what ValidTableLaws says of a word
named : (t : List ℕ) (r s low high : ℕ) → Earlier low high t r s → earlier t r s low high ≡ true
named t r s low high e = rw (lt-ltb s r e.earlier, inside low high (word t s 0) e.from e.to)

fits_by : (t : List ℕ) (r : ℕ) (f : Field) (w : ℕ) → Fit t r f w → fits t r (data_before t r) f w ≡ true
fits_by t r Unknown w e = absurd e
fits_by t r Variable w e = named t r w layout.var layout.var e
fits_by t r Array w e = named t r w layout.array layout.array e
fits_by t r Value w e = named t r w layout.number layout.diadic e
fits_by t r Process w e = named t r w layout.skip layout.while e
fits_by t r Monadic w e = inside 1 2 w e.0 e.1
fits_by t r Diadic w e = inside 1 14 w e.0 e.1
fits_by t r Offset w e = eq-eqb w (data_before t r) e
fits_by t r One w e = eq-eqb w 1 e
fits_by t r Length w e = inside 1 8192 w e.0 e.1
fits_by t r Word w e = refl
fits_by t r Unused w e = eq-eqb w 0 e

-- the words of a row of kind k are what they should be
abbrev Suits : List ℕ → ℕ → ℕ → ℕ → ℕ → ℕ → Type 0
Suits t r k a b c = let s = shape k in Fit t r s.a a × Fit t r s.b b × Fit t r s.c c

-- a row that a table holds fits by the words that it was given
row_fits_by : (t : List ℕ) (r k a b c : ℕ) → Holds t r (row k a b c) → Suits t r k a b c → row_fits t r ≡ true
row_fits_by t r k a b c h f =
    let s = shape k in
    let at_0 : word t r 0 ≡ k = h.at 0 (omega arith) in
    let at_1 : word t r 1 ≡ a = h.at 1 (omega arith) in
    let at_2 : word t r 2 ≡ b = h.at 2 (omega arith) in
    let at_3 : word t r 3 ≡ c = h.at 3 (omega arith) in
    rw (at_0, at_1, at_2, at_3) (rw (fits_by t r s.a a f.0, fits_by t r s.b b f.1, fits_by t r s.c c f.2))

-- ── words that rows declare ──

-- rows that declare nothing
data_stays : (t : List ℕ) (n k : ℕ) → ((s : ℕ) → n ≤ s → s < n + k → declared_in t s ≡ 0) → data_before t (n + k) ≡ data_before t n
unfolding data_before
data_stays t n zero h = let e : n + 0 ≡ n = omega arith in rw e refl
data_stays t n (suc k) h =
    let e : n + suc k ≡ suc (n + k) = omega arith in
    rw e (omega (arith, h (n + k) (omega arith) (omega arith), data_stays t n k (λ s a b. h s a (omega arith))))

-- ── rows of the tree ──

-- a row that fits and declares nothing
record Plain (t : List ℕ) (s : ℕ) : Type 0 where
  fits : row_fits t s ≡ true
  none : declared_in t s ≡ 0

-- rows n to m are such, and the kind of row m is from `low` to `high`
record Written (low high : ℕ) (t : List ℕ) (n m : ℕ) : Type 0 where
  each : (s : ℕ) → n ≤ s → s ≤ m → Plain t s
  from : low ≤ word t m 0
  to : word t m 0 ≤ high

module _ {t : List ℕ} where
  -- one row
  own : {low high k a b c m : ℕ} → Holds t m (row k a b c) → (layout.array < k) × (low ≤ k) × (k ≤ high) → Suits t m k a b c → Written low high t m m
  own {k = k} {a = a} {b = b} {c = c} {m = m} h l f =
      let e : word t m 0 ≡ k = h.at 0 (omega arith) in
      record {
        each = λ s i j. let z : s ≡ m = omega arith in rw z (record { fits = row_fits_by t m k a b c h f; none = rw (e, above layout.var layout.array k l.0) });
        from = omega arith;
        to = omega arith;
      }

  -- rows after others
  after : {l h low high n p m q : ℕ} → Written l h t n p → m ≡ p + 1 → Written low high t m q → Written low high t n q
  after {p = p} x e y = record {
    each = λ s a b.
        by_test (λ (c : Bool). ltb p s ≡ c → Plain t s) (ltb p s)
        (λ _ z. y.each s (omega (arith, ltb-true p s z)) b)
        (λ _ z. x.each s a (omega (arith, ltb-false p s z)))
        refl;
    from = y.from;
    to = y.to;
  }

  -- the last of them, named by a later row
  part : {low high n p m : ℕ} → Written low high t n p → p < m → Earlier low high t m p
  part x l = record { earlier = l; from = x.from; to = x.to }

-- ── operators ──

monadic_fits : (o : tree.Monadic) → (1 ≤ monadic_number o) × (monadic_number o ≤ 2)
monadic_fits negate = omega arith
monadic_fits invert = omega arith

diadic_fits : (o : tree.Diadic) → (1 ≤ diadic_number o) × (diadic_number o ≤ 14)
diadic_fits plus = omega arith
diadic_fits minus = omega arith
diadic_fits times = omega arith
diadic_fits bitwise_and = omega arith
diadic_fits bitwise_or = omega arith
diadic_fits bitwise_xor = omega arith
diadic_fits right = omega arith
diadic_fits left = omega arith
diadic_fits equal = omega arith
diadic_fits unequal = omega arith
diadic_fits less = omega arith
diadic_fits at_most = omega arith
diadic_fits greater = omega arith
diadic_fits at_least = omega arith

-- ── declarations ──

abbrev kind_of : Declaration → ℕ
kind_of var = layout.var
kind_of (array n) = layout.array

-- a declaration's row has its kind, in one row and in the list of all
holds_kind : (t : List ℕ) (n k : ℕ) (d : Declaration) → Holds t n (row_of d k) → word t n 0 ≡ kind_of d
holds_kind t n k var h = h.at 0 (omega arith)
holds_kind t n k (array m) h = h.at 0 (omega arith)

declared_kind : {ds : List Declaration} {r o : ℕ} {d : Declaration} (t : List ℕ) (n k : ℕ) → Holds t n (declared_rows ds k) → Declares ds r o d → word t (n + r) 0 ≡ kind_of d
unfolding declared_rows
declared_kind t n k h (here {d = d} {ds = ds}) =
    let e : n + 0 ≡ n = omega arith in
    rw e (holds_kind t n k d (front (row_of d k) (declared_rows ds (k + words_of d)) h))
declared_kind t n k h (later {e = e} {ds = ds} {r = r} q) =
    let a : n + suc r ≡ n + 1 + r = omega arith in
    rw a (declared_kind t (n + 1) (k + words_of e) (behind (row_of e k) (declared_rows ds (k + words_of e)) 1 (length_row_of e k) h) q)

-- one row, `k` words being declared before it
declaration_fits : (t : List ℕ) (n k : ℕ) (d : Declaration) (ds : List Declaration) → Lengths (d ∷ ds) → Holds t n (row_of d k) → data_before t n ≡ k
    → (row_fits t n ≡ true) × (data_before t (n + 1) ≡ k + words_of d) × Lengths ds
unfolding shape data_before
declaration_fits t n k var ds l h e =
    let z : n + 1 ≡ suc n = omega arith in
    let i : word t n 0 ≡ layout.var = h.at 0 (omega arith) in
    let w : word t n 2 ≡ 1 = h.at 2 (omega arith) in
    (row_fits_by t n layout.var k 1 0 h (omega arith, refl, refl), rw (z, i) (omega arith), l)
declaration_fits t n k (array m) ds l h e =
    let z : n + 1 ≡ suc n = omega arith in
    let i : word t n 0 ≡ layout.array = h.at 0 (omega arith) in
    let w : word t n 2 ≡ m = h.at 2 (omega arith) in
    (row_fits_by t n layout.array k m 0 h (omega arith, (l.0, l.1), refl), rw (z, i) (omega arith), l.2)

-- all of them, from row n on
declarations_fit : (t : List ℕ) (ds : List Declaration) (n k : ℕ) → Lengths ds → Holds t n (declared_rows ds k) → data_before t n ≡ k
    → ((s : ℕ) → n ≤ s → s < n + length ds → row_fits t s ≡ true) × (data_before t (n + length ds) ≡ k + data_words ds)
unfolding declared_rows data_words
declarations_fit t [] n k l h e = (λ s a b. absurd (omega arith), let z : n + 0 ≡ n = omega arith in rw z (omega arith))
declarations_fit t (d ∷ ds) n k l h e =
    let z : n + suc (length ds) ≡ n + 1 + length ds = omega arith in
    let f = declaration_fits t n k d ds l (front (row_of d k) (declared_rows ds (k + words_of d)) h) e in
    let g = declarations_fit t ds (n + 1) (k + words_of d) f.2 (behind (row_of d k) (declared_rows ds (k + words_of d)) 1 (length_row_of d k) h) f.1 in (
      λ s a b.
          by_test (λ (c : Bool). ltb n s ≡ c → row_fits t s ≡ true) (ltb n s)
          (λ _ y. g.0 s (omega (arith, ltb-true n s y)) (omega arith))
          (λ _ y. let x : s ≡ n = omega (arith, ltb-false n s y) in rw x f.0)
          refl,
      rw z (g.1 ∙ omega arith),
    )

module _ (t : List ℕ) (ds : List Declaration) (holds : Holds t 0 (declared_rows ds 0)) where
  -- a declaration, named by a row of the tree
  declared_at : {m r o : ℕ} {d : Declaration} → length ds ≤ m → Declares ds r o d → Earlier (kind_of d) (kind_of d) t m r
  declared_at {r = r} l q =
      let a : 0 + r ≡ r = omega arith in
      let k = rw a at (declared_kind t 0 0 holds q) in
      record { earlier = omega (arith, declared_row q); from = omega (arith, k); to = omega (arith, k) }

  -- ── expressions ──
  expression_written : (e : core.Expression) (n : ℕ) → length ds ≤ n → SoundExpression ds e → Holds t n (rows e n) → Written layout.number layout.diadic t n (n + count e - 1)
  unfolding rows count shape
  expression_written (constant w) n l s h =
      let r : n + 1 - 1 ≡ n = omega arith in
      rw r (own h (omega arith) (tt, refl, refl))
  expression_written (variable v) n l s h =
      let r : n + 1 - 1 ≡ n = omega arith in
      rw r (own h (omega arith) (declared_at l s, refl, refl))
  expression_written (element a e) n l s h =
      let m = n + count e in
      let last = row layout.element a.row (m - 1) 0 in
      let r : n + (count e + 1) - 1 ≡ m = omega arith in
      let z = some_rows e in
      let g = behind (rows e n) last (count e) (length_rows e n) h in
      let x = expression_written e n l s.1 (front (rows e n) last h) in
      rw r (after x (omega arith) (own g (omega arith) (declared_at (omega arith) s.0, part x (omega arith), refl)))
  expression_written (monadic o e) n l s h =
      let m = n + count e in
      let last = row layout.monadic (monadic_number o) (m - 1) 0 in
      let r : n + (count e + 1) - 1 ≡ m = omega arith in
      let z = some_rows e in
      let g = behind (rows e n) last (count e) (length_rows e n) h in
      let x = expression_written e n l s (front (rows e n) last h) in
      rw r (after x (omega arith) (own g (omega arith) (monadic_fits o, part x (omega arith), refl)))
  expression_written (diadic o e f) n l s h =
      let m = n + count e + count f in
      let last = row layout.diadic (diadic_number o) (n + count e - 1) (m - 1) in
      let r : n + (count e + count f + 1) - 1 ≡ m = omega arith in
      let y = some_rows e in
      let z = some_rows f in
      let i = behind (rows e n) (rows f (n + count e) ++ last) (count e) (length_rows e n) h in
      let g = behind (rows f (n + count e)) last (count f) (length_rows f (n + count e)) i in
      let x = expression_written e n l s.0 (front (rows e n) (rows f (n + count e) ++ last) h) in
      let x' = expression_written f (n + count e) (omega arith) s.1 (front (rows f (n + count e)) last i) in
      rw r (after x (omega arith) (after x' (omega arith) (own g (omega arith) (diadic_fits o, part x (omega arith), part x' (omega arith)))))

  -- ── processes ──
  process_written : (p : core.Process) (n : ℕ) → length ds ≤ n → SoundProcess ds p → Holds t n (rows_process p n) → Written layout.skip layout.while t n (n + count_process p - 1)
  unfolding rows_process count_process shape process_shape
  process_written skip n l s h =
      let r : n + 1 - 1 ≡ n = omega arith in
      rw r (own h (omega arith) (refl, refl, refl))
  process_written stop n l s h =
      let r : n + 1 - 1 ≡ n = omega arith in
      rw r (own h (omega arith) (refl, refl, refl))
  process_written (assign v e) n l s h =
      let m = n + count e in
      let last = row layout.assign v.row (m - 1) 0 in
      let r : n + (count e + 1) - 1 ≡ m = omega arith in
      let z = some_rows e in
      let g = behind (rows e n) last (count e) (length_rows e n) h in
      let x = expression_written e n l s.1 (front (rows e n) last h) in
      rw r (after x (omega arith) (own g (omega arith) (declared_at (omega arith) s.0, part x (omega arith), refl)))
  process_written (assign_element a i e) n l s h =
      let m = n + count i + count e in
      let last = row layout.assign_element a.row (n + count i - 1) (m - 1) in
      let r : n + (count i + count e + 1) - 1 ≡ m = omega arith in
      let y = some_rows i in
      let z = some_rows e in
      let f = behind (rows i n) (rows e (n + count i) ++ last) (count i) (length_rows i n) h in
      let g = behind (rows e (n + count i)) last (count e) (length_rows e (n + count i)) f in
      let x = expression_written i n l s.1 (front (rows i n) (rows e (n + count i) ++ last) h) in
      let x' = expression_written e (n + count i) (omega arith) s.2 (front (rows e (n + count i)) last f) in
      rw r (after x (omega arith) (after x' (omega arith) (own g (omega arith) (declared_at (omega arith) s.0, part x (omega arith), part x' (omega arith)))))
  process_written (sequence p q) n l s h =
      let a = count_process p in
      let b = count_process q in
      let m = n + a + b in
      let last = row layout.sequence (n + a - 1) (m - 1) 0 in
      let r : n + (a + b + 1) - 1 ≡ m = omega arith in
      let y = some_rows_process p in
      let z = some_rows_process q in
      let f = behind (rows_process p n) (rows_process q (n + a) ++ last) a (length_rows_process p n) h in
      let g = behind (rows_process q (n + a)) last b (length_rows_process q (n + a)) f in
      let x = process_written p n l s.0 (front (rows_process p n) (rows_process q (n + a) ++ last) h) in
      let x' = process_written q (n + a) (omega arith) s.1 (front (rows_process q (n + a)) last f) in
      rw r (after x (omega arith) (after x' (omega arith) (own g (omega arith) (part x (omega arith), part x' (omega arith), refl))))
  process_written (conditional e p q) n l s h =
      let c = count e in
      let a = count_process p in
      let b = count_process q in
      let m = n + c + a + b in
      let last = row layout.if (n + c - 1) (n + c + a - 1) (m - 1) in
      let r : n + (c + a + b + 1) - 1 ≡ m = omega arith in
      let w = some_rows e in
      let y = some_rows_process p in
      let z = some_rows_process q in
      let f = behind (rows e n) (rows_process p (n + c) ++ (rows_process q (n + c + a) ++ last)) c (length_rows e n) h in
      let i = behind (rows_process p (n + c)) (rows_process q (n + c + a) ++ last) a (length_rows_process p (n + c)) f in
      let g = behind (rows_process q (n + c + a)) last b (length_rows_process q (n + c + a)) i in
      let x = expression_written e n l s.0 (front (rows e n) (rows_process p (n + c) ++ (rows_process q (n + c + a) ++ last)) h) in
      let x' = process_written p (n + c) (omega arith) s.1 (front (rows_process p (n + c)) (rows_process q (n + c + a) ++ last) f) in
      let x'' = process_written q (n + c + a) (omega arith) s.2 (front (rows_process q (n + c + a)) last i) in
      rw r (after x (omega arith) (after x' (omega arith) (after x'' (omega arith) (own g (omega arith) (part x (omega arith), part x' (omega arith), part x'' (omega arith))))))
  process_written (loop e p) n l s h =
      let c = count e in
      let a = count_process p in
      let m = n + c + a in
      let last = row layout.while (n + c - 1) (m - 1) 0 in
      let r : n + (c + a + 1) - 1 ≡ m = omega arith in
      let y = some_rows e in
      let z = some_rows_process p in
      let f = behind (rows e n) (rows_process p (n + c) ++ last) c (length_rows e n) h in
      let g = behind (rows_process p (n + c)) last a (length_rows_process p (n + c)) f in
      let x = expression_written e n l s.0 (front (rows e n) (rows_process p (n + c) ++ last) h) in
      let x' = process_written p (n + c) (omega arith) s.1 (front (rows_process p (n + c)) last f) in
      rw r (after x (omega arith) (after x' (omega arith) (own g (omega arith) (part x (omega arith), part x' (omega arith), refl))))

-- ── the theorems ──

-- what a table that holds a sound program's rows says of them
pub record SoundRows (p : Program) (t : List ℕ) : Type 0 where
  pub some : 0 < row_count p
  pub fitting : (r : ℕ) → r < row_count p → row_fits t r ≡ true
  pub declared : data_before t (row_count p) ≡ data_words p.declarations
  -- the last is a process
  pub from : layout.skip ≤ word t (row_count p - 1) 0
  pub to : word t (row_count p - 1) 0 ≤ layout.while

pub sound_rows : (p : Program) (t : List ℕ) → Sound p → Holds t 0 (table_of p) → SoundRows p t
unfolding table_of row_count data_before
sound_rows p t s h =
    let ds = p.declarations in
    let q = core_process p.body in
    let n = length ds in
    let e : 0 + n ≡ n = omega arith in
    let f = front (declared_rows ds 0) (rows_process q n) h in
    let g = rw e at (behind (declared_rows ds 0) (rows_process q n) n (length_declared ds 0) h) in
    let d = declarations_fit t ds 0 0 s.lengths f refl in
    let x = process_written t ds f q n (omega arith) s.body g in
    let z = some_rows_process q in
    record {
      some = omega arith;
      fitting = λ r b.
          by_test (λ (c : Bool). ltb r n ≡ c → row_fits t r ≡ true) (ltb r n)
          (λ _ y. d.0 r (omega arith) (omega (arith, ltb-true r n y)))
          (λ _ y. (x.each r (ltb-false r n y) (omega arith)).fits)
          refl;
      declared = data_stays t n (count_process q) (λ r a b. (x.each r a (omega arith)).none) ∙ (rw e at d.1) ∙ omega arith;
      from = x.from;
      to = x.to;
    }

-- each of its rows fits, so all do
all_fit : (t : List ℕ) (n : ℕ) → ((r : ℕ) → r < n → row_fits t r ≡ true) → rows_fit t n ≡ true
unfolding rows_fit
all_fit t zero f = refl
all_fit t (suc n) f = rw (all_fit t n (λ r b. f r (omega arith)), f n (omega arith))

module _ (p : Program) where
  -- as many rows as the program has
  pub table_rows : rows_in (table_of p) ≡ row_count p
  table_rows = omega (arith, length_table p)

  -- the table holds itself
  own_table : Holds (table_of p) 0 (table_of p)
  own_table = record { at = λ k _. let e : row_words * 0 + k ≡ k = omega arith in ap (λ (n : ℕ). get_or (table_of p) n 0) e }

  module _ (s : Sound p) where
    own_rows : SoundRows p (table_of p)
    own_rows = sound_rows p (table_of p) s own_table

    -- its last row is the program's tree
    pub table_tree : process_at (table_of p) (rows_in (table_of p) - 1) ≡ core_process p.body
    table_tree = rw table_rows (read_back p (table_of p) s own_table)

    -- as many words of data as it declares
    pub table_data : data_in (table_of p) ≡ data_words p.declarations
    table_data = rw table_rows own_rows.declared

    -- THE THEOREM: 36 refuses no table of a sound program, if it has at most 1,024 rows
    pub sound_valid : row_count p ≤ 1024 → valid (table_of p) ≡ true
    unfolding valid
    sound_valid l =
        let t = table_of p in
        let n = row_count p in
        let r = own_rows in
        let m : length t % row_words ≡ 0 = omega (arith, length_table p) in
        rw (eq-eqb (length t % row_words) 0 m, table_rows, le-leb n 1024 l, all_fit t n r.fitting, r.declared, le-leb (data_words p.declarations) 8192 s.small, lt-ltb 0 n r.some)
        (inside layout.skip layout.while (word t (n - 1) 0) r.from r.to)
