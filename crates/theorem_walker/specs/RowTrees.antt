-- A row of a table that can be run stands for its tree, kind by kind: what the walk goes by, said by the tree that the source's run goes by. Definitions and laws; they rest on x_program.
use Rattle.std.specs.Prelude.{◌≡◌, true, List}
use Rattle.std.proofs.Math.Path.{refl}
use Prim.Native.Nat.{ℕ, zero, suc, ◌≤◌, ◌<◌}
use Rattle.std.proofs.Common.{arith}
use Rattle.x_program.specs.Layout as layout
use Rattle.x_program.specs.Core.{Expression, constant, variable, element, monadic, diadic, Process, skip, stop, assign, assign_element, sequence, conditional, loop}
use Rattle.x_program.specs.Table.{word, monadic_of, diadic_of, expression_at, process_at}
use Rattle.x_program.specs.TableLaws.{at_constant, at_variable, at_element, at_monadic, at_diadic, at_skip, at_stop, at_assign, at_assign_element, at_sequence, at_conditional, at_loop}
use Rattle.x_program.specs.ValidTable.{shape, process_shape, row_fits}
use Rattle.x_program.specs.FittingRows.{Earlier, Fitting}
use Rattle.x_program.proofs.ValidTableLaws.{row_words_fit, value_kinds, process_kinds}
use Rattle.x_meaning.specs.TableRun.{offset_of, length_of}

-- ── what it is for a row to stand for a tree ──

-- row r has this kind, and its words are those of an expression
abbrev pub Value : List ℕ → ℕ → Expression → Type 0
Value t r (constant w) = (word t r 0 ≡ layout.number) × (word t r 1 ≡ w)
Value t r (variable v) = (word t r 0 ≡ layout.variable) × (offset_of t r ≡ v.offset)
Value t r (element a e) = (word t r 0 ≡ layout.element) × (offset_of t r ≡ a.offset) × (length_of t r ≡ a.length) × Value t (word t r 2) e
Value t r (monadic o e) = (word t r 0 ≡ layout.monadic) × (monadic_of (word t r 1) ≡ o) × Value t (word t r 2) e
Value t r (diadic o e f) = (word t r 0 ≡ layout.diadic) × (diadic_of (word t r 1) ≡ o) × Value t (word t r 2) e × Value t (word t r 3) f

-- the same of a process
abbrev pub Does : List ℕ → ℕ → Process → Type 0
Does t r skip = word t r 0 ≡ layout.skip
Does t r stop = word t r 0 ≡ layout.stop
Does t r (assign v e) = (word t r 0 ≡ layout.assign) × (offset_of t r ≡ v.offset) × Value t (word t r 2) e
Does t r (assign_element a s e) =
    (word t r 0 ≡ layout.assign_element) × (offset_of t r ≡ a.offset) × (length_of t r ≡ a.length) × Value t (word t r 2) s × Value t (word t r 3) e
Does t r (sequence p q) = (word t r 0 ≡ layout.sequence) × Does t (word t r 1) p × Does t (word t r 2) q
Does t r (conditional e p q) = (word t r 0 ≡ layout.if) × Value t (word t r 1) e × Does t (word t r 2) p × Does t (word t r 3) q
Does t r (loop e p) = (word t r 0 ≡ layout.while) × Value t (word t r 1) e × Does t (word t r 2) p

-- ── rows below n that fit ──
module _ (t : List ℕ) (n : ℕ) (fitting : (r : ℕ) → r < n → row_fits t r ≡ true) where
  -- by induction on the row's number: parts are earlier rows
  value_below : (b r : ℕ) → r < b → r < n → layout.number ≤ word t r 0 → word t r 0 ≤ layout.diadic → Value t r (expression_at t r)
  unfolding shape
  value_below zero r h i l u = absurd (omega arith)
  value_below (suc b) r h i l u =
      let fit : (k : ℕ) → word t r 0 ≡ k → Fitting t r k = λ k. row_words_fit t r k (fitting r i) in
      let part : (s : ℕ) → Earlier layout.number layout.diadic t r s → Value t s (expression_at t s) = λ s x. value_below b s (omega arith) (omega arith) x.from x.to in
      value_kinds (word t r 0) l u
      (λ k. rw (at_constant t r k) (k, refl))
      (λ k. rw (at_variable t r k) (k, refl))
      (λ k. let f = fit layout.element k in rw (at_element t r k f.1.earlier) (k, refl, refl, part (word t r 2) f.1))
      (λ k. let f = fit layout.monadic k in rw (at_monadic t r k f.1.earlier) (k, refl, part (word t r 2) f.1))
      (λ k. let f = fit layout.diadic k in rw (at_diadic t r k f.1.earlier f.2.earlier) (k, refl, part (word t r 2) f.1, part (word t r 3) f.2))

  -- a value that a row names
  value_row : (r s : ℕ) → r ≤ n → Earlier layout.number layout.diadic t r s → Value t s (expression_at t s)
  value_row r s h x = value_below (suc s) s (omega arith) (omega arith) x.from x.to

  -- the same of processes
  does_below : (b r : ℕ) → r < b → r < n → layout.skip ≤ word t r 0 → word t r 0 ≤ layout.while → Does t r (process_at t r)
  unfolding shape process_shape
  does_below zero r h i l u = absurd (omega arith)
  does_below (suc b) r h i l u =
      let fit : (k : ℕ) → word t r 0 ≡ k → Fitting t r k = λ k. row_words_fit t r k (fitting r i) in
      let value : (s : ℕ) → Earlier layout.number layout.diadic t r s → Value t s (expression_at t s) = λ s x. value_row r s (omega arith) x in
      let part : (s : ℕ) → Earlier layout.skip layout.while t r s → Does t s (process_at t s) = λ s x. does_below b s (omega arith) (omega arith) x.from x.to in
      process_kinds (word t r 0) l u
      (λ k. rw (at_skip t r k) k)
      (λ k. rw (at_stop t r k) k)
      (λ k. let f = fit layout.assign k in rw (at_assign t r k) (k, refl, value (word t r 2) f.1))
      (λ k. let f = fit layout.assign_element k in rw (at_assign_element t r k) (k, refl, refl, value (word t r 2) f.1, value (word t r 3) f.2))
      (λ k. let f = fit layout.sequence k in rw (at_sequence t r k f.0.earlier f.1.earlier) (k, part (word t r 1) f.0, part (word t r 2) f.1))
      (λ k.
      let f = fit layout.if k in
      rw (at_conditional t r k f.1.earlier f.2.earlier) (k, value (word t r 1) f.0, part (word t r 2) f.1, part (word t r 3) f.2))
      (λ k. let f = fit layout.while k in rw (at_loop t r k f.1.earlier) (k, value (word t r 1) f.0, part (word t r 2) f.1))

  -- a process row does what its tree says
  pub process_row : (r : ℕ) → r < n → layout.skip ≤ word t r 0 → word t r 0 ≤ layout.while → Does t r (process_at t r)
  process_row r = does_below (suc r) r (omega arith)
