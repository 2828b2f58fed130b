-- The tree can be read back from its rows: a table that holds a program's rows has, in its last row, the program's core. Laws; assumes nothing.
use Rattle.std.specs.Prelude.{◌≡◌, refl, List, ◌++◌, ℕ, ◌+◌, ◌-◌, length}
use Rattle.std.proofs.Math.Path.{ap, ap₂}
use Rattle.std.proofs.Common.{◌∙◌}
use native.Mathlib.Omega.{arith}
use Rattle.x_program.specs.Layout.{row_words}
use Rattle.x_program.specs.Layout as layout
use Rattle.x_program.specs.Tree.{Monadic, negate, invert, Diadic, plus, minus, times, bitwise_and, bitwise_or, bitwise_xor, right, left, equal, unequal, less, at_most, greater, at_least, Variable, Array}
use Rattle.x_program.specs.Tree.{Declaration, Program}
use Rattle.x_program.specs.Core.{Expression, constant, variable, element, monadic, diadic, Process, skip, stop, assign, assign_element, sequence, conditional, loop, core_process}
use Rattle.x_program.specs.Rows.{monadic_number, diadic_number, row, count, rows, count_process, rows_process, declared_rows, table_of, row_count}
use Rattle.x_program.specs.Table.{word, monadic_of, diadic_of, variable_in, array_in, expression_at, process_at}
use Rattle.x_program.specs.TableLaws.{at_constant, at_variable, at_element, at_monadic, at_diadic, at_skip, at_stop, at_assign, at_assign_element, at_sequence, at_conditional, at_loop}
use Rattle.x_program.specs.Sound.{IsVariable, IsArray, SoundExpression, SoundProcess, Sound}
use Rattle.x_program.specs.TableReadBack.{length_rows, some_rows, length_rows_process, some_rows_process, length_declared, Holds, front, behind, declared_word}

-- ── operators ──

monadic_back : (o : Monadic) → monadic_of (monadic_number o) ≡ o
monadic_back negate = refl
monadic_back invert = refl

diadic_back : (o : Diadic) → diadic_of (diadic_number o) ≡ o
diadic_back plus = refl
diadic_back minus = refl
diadic_back times = refl
diadic_back bitwise_and = refl
diadic_back bitwise_or = refl
diadic_back bitwise_xor = refl
diadic_back right = refl
diadic_back left = refl
diadic_back equal = refl
diadic_back unequal = refl
diadic_back less = refl
diadic_back at_most = refl
diadic_back greater = refl
diadic_back at_least = refl

module _ (t : List ℕ) (ds : List Declaration) (holds : Holds t 0 (declared_rows ds 0)) where
  variable_back : (v : Variable) → IsVariable ds v → variable_in t v.row ≡ v
  variable_back v h =
      let q : word t (0 + v.row) 1 ≡ 0 + v.offset = (declared_word t 0 0 holds h).0 in
      let a : 0 + v.row ≡ v.row = omega arith in
      let b : 0 + v.offset ≡ v.offset = omega arith in
      let e : word t v.row 1 ≡ v.offset = rw (a, b) at q in
      λ i. record { row = v.row; offset = e i }

  array_back : (a : Array) → IsArray ds a → array_in t a.row ≡ a
  array_back v h =
      let p = declared_word t 0 0 holds h in
      let q : word t (0 + v.row) 1 ≡ 0 + v.offset = p.0 in
      let a : 0 + v.row ≡ v.row = omega arith in
      let b : 0 + v.offset ≡ v.offset = omega arith in
      let e : word t v.row 1 ≡ v.offset = rw (a, b) at q in
      let f : word t v.row 2 ≡ v.length = rw a at p.1 in
      λ i. record { row = v.row; offset = e i; length = f i }

  -- ── expressions ──
  pub read_expression : (e : Expression) (n : ℕ) → SoundExpression ds e → Holds t n (rows e n) → expression_at t (n + count e - 1) ≡ e
  unfolding rows count
  read_expression (constant w) n s h =
      let r : n + 1 - 1 ≡ n = omega arith in
      rw r (at_constant t n (h.at 0 (omega arith)) ∙ ap constant (h.at 1 (omega arith)))
  read_expression (variable v) n s h =
      let r : n + 1 - 1 ≡ n = omega arith in
      rw r (at_variable t n (h.at 0 (omega arith)) ∙ ap (λ (x : ℕ). variable (variable_in t x)) (h.at 1 (omega arith)) ∙ ap variable (variable_back v s))
  read_expression (element a e) n s h =
      let r : n + (count e + 1) - 1 ≡ n + count e = omega arith in
      let g = behind (rows e n) (row layout.element a.row (n + count e - 1) 0) (count e) (length_rows e n) h in
      let b = g.at 2 (omega arith) in
      let z = some_rows e in
      rw r (at_element t (n + count e) (g.at 0 (omega arith)) (omega arith)
      ∙ ap₂ element (ap (array_in t) (g.at 1 (omega arith)) ∙ array_back a s.0)
      (ap (expression_at t) b ∙ read_expression e n s.1 (front (rows e n) (row layout.element a.row (n + count e - 1) 0) h)))
  read_expression (monadic o e) n s h =
      let r : n + (count e + 1) - 1 ≡ n + count e = omega arith in
      let g = behind (rows e n) (row layout.monadic (monadic_number o) (n + count e - 1) 0) (count e) (length_rows e n) h in
      let b = g.at 2 (omega arith) in
      let z = some_rows e in
      rw r (at_monadic t (n + count e) (g.at 0 (omega arith)) (omega arith)
      ∙ ap₂ monadic (ap monadic_of (g.at 1 (omega arith)) ∙ monadic_back o)
      (ap (expression_at t) b ∙ read_expression e n s (front (rows e n) (row layout.monadic (monadic_number o) (n + count e - 1) 0) h)))
  read_expression (diadic o e f) n s h =
      let last = row layout.diadic (diadic_number o) (n + count e - 1) (n + count e + count f - 1) in
      let r : n + (count e + count f + 1) - 1 ≡ n + count e + count f = omega arith in
      let g = behind (rows e n) (rows f (n + count e) ++ last) (count e) (length_rows e n) h in
      let l = behind (rows f (n + count e)) last (count f) (length_rows f (n + count e)) g in
      let b = l.at 2 (omega arith) in
      let c = l.at 3 (omega arith) in
      let y = some_rows e in
      let z = some_rows f in
      rw r (at_diadic t (n + count e + count f) (l.at 0 (omega arith)) (omega arith) (omega arith)
      ∙ ap (λ (x : Diadic). diadic x (expression_at t (word t (n + count e + count f) 2)) (expression_at t (word t (n + count e + count f) 3))) (ap diadic_of (l.at 1 (omega arith)) ∙ diadic_back o)
      ∙ ap₂ (diadic o)
      (ap (expression_at t) b ∙ read_expression e n s.0 (front (rows e n) (rows f (n + count e) ++ last) h))
      (ap (expression_at t) c ∙ read_expression f (n + count e) s.1 (front (rows f (n + count e)) last g)))

  -- ── processes ──
  pub read_process : (p : Process) (n : ℕ) → SoundProcess ds p → Holds t n (rows_process p n) → process_at t (n + count_process p - 1) ≡ p
  unfolding rows_process count_process
  read_process skip n s h = let r : n + 1 - 1 ≡ n = omega arith in rw r (at_skip t n (h.at 0 (omega arith)))
  read_process stop n s h = let r : n + 1 - 1 ≡ n = omega arith in rw r (at_stop t n (h.at 0 (omega arith)))
  read_process (assign v e) n s h =
      let last = row layout.assign v.row (n + count e - 1) 0 in
      let r : n + (count e + 1) - 1 ≡ n + count e = omega arith in
      let g = behind (rows e n) last (count e) (length_rows e n) h in
      rw r (at_assign t (n + count e) (g.at 0 (omega arith))
      ∙ ap₂ assign (ap (variable_in t) (g.at 1 (omega arith)) ∙ variable_back v s.0)
      (ap (expression_at t) (g.at 2 (omega arith)) ∙ read_expression e n s.1 (front (rows e n) last h)))
  read_process (assign_element a i e) n s h =
      let last = row layout.assign_element a.row (n + count i - 1) (n + count i + count e - 1) in
      let r : n + (count i + count e + 1) - 1 ≡ n + count i + count e = omega arith in
      let g = behind (rows i n) (rows e (n + count i) ++ last) (count i) (length_rows i n) h in
      let l = behind (rows e (n + count i)) last (count e) (length_rows e (n + count i)) g in
      let x = n + count i + count e in
      rw r (at_assign_element t x (l.at 0 (omega arith))
      ∙ ap (λ (y : Array). assign_element y (expression_at t (word t x 2)) (expression_at t (word t x 3))) (ap (array_in t) (l.at 1 (omega arith)) ∙ array_back a s.0)
      ∙ ap₂ (assign_element a)
      (ap (expression_at t) (l.at 2 (omega arith)) ∙ read_expression i n s.1 (front (rows i n) (rows e (n + count i) ++ last) h))
      (ap (expression_at t) (l.at 3 (omega arith)) ∙ read_expression e (n + count i) s.2 (front (rows e (n + count i)) last g)))
  read_process (sequence p q) n s h =
      let a = count_process p in
      let b = count_process q in
      let last = row layout.sequence (n + a - 1) (n + a + b - 1) 0 in
      let r : n + (a + b + 1) - 1 ≡ n + a + b = omega arith in
      let g = behind (rows_process p n) (rows_process q (n + a) ++ last) a (length_rows_process p n) h in
      let l = behind (rows_process q (n + a)) last b (length_rows_process q (n + a)) g in
      let u = l.at 1 (omega arith) in
      let v = l.at 2 (omega arith) in
      let y = some_rows_process p in
      let z = some_rows_process q in
      rw r (at_sequence t (n + a + b) (l.at 0 (omega arith)) (omega arith) (omega arith)
      ∙ ap₂ sequence
      (ap (process_at t) u ∙ read_process p n s.0 (front (rows_process p n) (rows_process q (n + a) ++ last) h))
      (ap (process_at t) v ∙ read_process q (n + a) s.1 (front (rows_process q (n + a)) last g)))
  read_process (conditional e p q) n s h =
      let c = count e in
      let a = count_process p in
      let b = count_process q in
      let last = row layout.if (n + c - 1) (n + c + a - 1) (n + c + a + b - 1) in
      let r : n + (c + a + b + 1) - 1 ≡ n + c + a + b = omega arith in
      let f = behind (rows e n) (rows_process p (n + c) ++ (rows_process q (n + c + a) ++ last)) c (length_rows e n) h in
      let g = behind (rows_process p (n + c)) (rows_process q (n + c + a) ++ last) a (length_rows_process p (n + c)) f in
      let l = behind (rows_process q (n + c + a)) last b (length_rows_process q (n + c + a)) g in
      let u = l.at 2 (omega arith) in
      let v = l.at 3 (omega arith) in
      let y = some_rows_process p in
      let z = some_rows_process q in
      let x = n + c + a + b in
      rw r (at_conditional t x (l.at 0 (omega arith)) (omega arith) (omega arith)
      ∙ ap (λ (w : Expression). conditional w (process_at t (word t x 2)) (process_at t (word t x 3)))
      (ap (expression_at t) (l.at 1 (omega arith)) ∙ read_expression e n s.0 (front (rows e n) (rows_process p (n + c) ++ (rows_process q (n + c + a) ++ last)) h))
      ∙ ap₂ (conditional e)
      (ap (process_at t) u ∙ read_process p (n + c) s.1 (front (rows_process p (n + c)) (rows_process q (n + c + a) ++ last) f))
      (ap (process_at t) v ∙ read_process q (n + c + a) s.2 (front (rows_process q (n + c + a)) last g)))
  read_process (loop e p) n s h =
      let c = count e in
      let a = count_process p in
      let last = row layout.while (n + c - 1) (n + c + a - 1) 0 in
      let r : n + (c + a + 1) - 1 ≡ n + c + a = omega arith in
      let g = behind (rows e n) (rows_process p (n + c) ++ last) c (length_rows e n) h in
      let l = behind (rows_process p (n + c)) last a (length_rows_process p (n + c)) g in
      let v = l.at 2 (omega arith) in
      let y = some_rows_process p in
      rw r (at_loop t (n + c + a) (l.at 0 (omega arith)) (omega arith)
      ∙ ap₂ loop
      (ap (expression_at t) (l.at 1 (omega arith)) ∙ read_expression e n s.0 (front (rows e n) (rows_process p (n + c) ++ last) h))
      (ap (process_at t) v ∙ read_process p (n + c) s.1 (front (rows_process p (n + c)) last g)))

-- THE THEOREM: a table that holds a sound program's rows has its core in the last row
pub read_back : (p : Program) (t : List ℕ) → Sound p → Holds t 0 (table_of p) → process_at t (row_count p - 1) ≡ core_process p.body
unfolding table_of row_count
read_back p t s h =
    let ds = p.declarations in
    let q = core_process p.body in
    let f = front (declared_rows ds 0) (rows_process q (length ds)) h in
    let g = behind (declared_rows ds 0) (rows_process q (length ds)) (length ds) (length_declared ds 0) h in
    let e : 0 + length ds ≡ length ds = omega arith in
    read_process t ds f q (length ds) s.body (rw e at g)
