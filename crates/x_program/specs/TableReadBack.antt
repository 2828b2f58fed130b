-- A table that holds a program's rows, and how many rows there are. A definition and laws; assumes nothing.
use Rattle.std.specs.Prelude.{◌≡◌, refl, List, [], ◌∷◌, ◌++◌, ℕ, suc, ◌+◌, ◌*◌, ◌<◌, length, get_or}
use Rattle.std.proofs.Math.Path.{ap}
use Rattle.std.proofs.Common.{◌∙◌, length-append, get_or-append-add}
use native.Mathlib.Omega.{arith}
use Rattle.std.proofs.Math.ListN.{get_or-append}
use Rattle.x_program.specs.Layout.{row_words}
use Rattle.x_program.specs.Tree.{Declaration, var, array, words_of, Program}
use Rattle.x_program.specs.Core.{Expression, constant, variable, element, monadic, diadic, Process, skip, stop, assign, assign_element, sequence, conditional, loop, core_process}
use Rattle.x_program.specs.Rows.{count, rows, count_process, rows_process, row_of, declared_rows, table_of, row_count}
use Rattle.x_program.specs.Table.{word}
use Rattle.x_program.specs.Sound.{Declares, here, later}

-- ── lengths ──

pub length_rows : (e : Expression) (n : ℕ) → length (rows e n) ≡ row_words * count e
unfolding rows count
length_rows (constant w) n = refl
length_rows (variable v) n = refl
length_rows (element a e) n = simp length-append (omega (arith, length_rows e n))
length_rows (monadic o e) n = simp length-append (omega (arith, length_rows e n))
length_rows (diadic o e f) n = simp length-append (omega (arith, length_rows e n, length_rows f (n + count e)))

pub some_rows : (e : Expression) → 0 < count e
unfolding count
some_rows (constant w) = omega arith
some_rows (variable v) = omega arith
some_rows (element a e) = omega arith
some_rows (monadic o e) = omega arith
some_rows (diadic o e f) = omega arith

pub length_rows_process : (p : Process) (n : ℕ) → length (rows_process p n) ≡ row_words * count_process p
unfolding rows_process count_process
length_rows_process skip n = refl
length_rows_process stop n = refl
length_rows_process (assign v e) n = simp length-append (omega (arith, length_rows e n))
length_rows_process (assign_element a s e) n = simp length-append (omega (arith, length_rows s n, length_rows e (n + count s)))
length_rows_process (sequence p q) n = simp length-append (omega (arith, length_rows_process p n, length_rows_process q (n + count_process p)))
length_rows_process (conditional e p q) n =
    simp length-append (omega (arith, length_rows e n, length_rows_process p (n + count e), length_rows_process q (n + count e + count_process p)))
length_rows_process (loop e p) n = simp length-append (omega (arith, length_rows e n, length_rows_process p (n + count e)))

pub some_rows_process : (p : Process) → 0 < count_process p
unfolding count_process
some_rows_process skip = omega arith
some_rows_process stop = omega arith
some_rows_process (assign v e) = omega arith
some_rows_process (assign_element a s e) = omega arith
some_rows_process (sequence p q) = omega arith
some_rows_process (conditional e p q) = omega arith
some_rows_process (loop e p) = omega arith

pub length_declared : (ds : List Declaration) (k : ℕ) → length (declared_rows ds k) ≡ row_words * length ds
unfolding declared_rows
length_declared [] k = refl
length_declared (var ∷ ds) k = omega (arith, length_declared ds (k + 1))
length_declared (array n ∷ ds) k = omega (arith, length_declared ds (k + n))

pub length_table : (p : Program) → length (table_of p) ≡ row_words * row_count p
unfolding table_of row_count
length_table p =
    simp length-append (omega (arith, length_declared p.declarations 0, length_rows_process (core_process p.body) (length p.declarations)))

-- ── a table that holds rows from a row on ──

pub record Holds (t : List ℕ) (n : ℕ) (xs : List ℕ) : Type 0 where
  pub at : (k : ℕ) → k < length xs → get_or t (row_words * n + k) 0 ≡ get_or xs k 0

module _ {t : List ℕ} {n : ℕ} (xs ys : List ℕ) where
  pub front : Holds t n (xs ++ ys) → Holds t n xs
  front h = record { at = λ k l. h.at k (omega (arith, length-append xs ys)) ∙ get_or-append xs ys 0 k l }

  pub behind : (s : ℕ) → length xs ≡ row_words * s → Holds t n (xs ++ ys) → Holds t (n + s) ys
  behind s e h = record {
    at = λ k l.
        let f : row_words * (n + s) + k ≡ row_words * n + (length xs + k) = omega arith in
        ap (λ (m : ℕ). get_or t m 0) f ∙ h.at (length xs + k) (omega (arith, length-append xs ys)) ∙ get_or-append-add xs ys k 0;
  }

-- ── declarations ──

-- a declaration's row says its offset and its words
holds_row : (t : List ℕ) (n k : ℕ) (d : Declaration) → Holds t n (row_of d k) → (word t n 1 ≡ k) × (word t n 2 ≡ words_of d)
holds_row t n k var h = (h.at 1 (omega arith), h.at 2 (omega arith))
holds_row t n k (array m) h = (h.at 1 (omega arith), h.at 2 (omega arith))

pub length_row_of : (d : Declaration) (k : ℕ) → length (row_of d k) ≡ row_words * 1
length_row_of var k = refl
length_row_of (array n) k = refl

pub declared_word : {ds : List Declaration} {r o : ℕ} {d : Declaration} (t : List ℕ) (n k : ℕ) → Holds t n (declared_rows ds k) → Declares ds r o d
    → (word t (n + r) 1 ≡ k + o) × (word t (n + r) 2 ≡ words_of d)
unfolding declared_rows
declared_word t n k h (here {d = d} {ds = ds}) =
    let q = holds_row t n k d (front (row_of d k) (declared_rows ds (k + words_of d)) h) in
    let e : n + 0 ≡ n = omega arith in
    let f : k + 0 ≡ k = omega arith in
    rw (e, f) q
declared_word t n k h (later {e = e} {ds = ds} {r = r} {o = o} q) =
    let i = declared_word t (n + 1) (k + words_of e) (behind (row_of e k) (declared_rows ds (k + words_of e)) 1 (length_row_of e k) h) q in
    let a : n + suc r ≡ n + 1 + r = omega arith in
    let b : k + (words_of e + o) ≡ k + words_of e + o = omega arith in
    rw (a, b) i
