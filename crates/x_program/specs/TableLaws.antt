-- The tree of a row, one law a kind: what the walks over a table go by. Laws; rests on Table.
use Rattle.std.specs.Prelude.{◌≡◌, Bool, List, eqb}
use Rattle.std.proofs.Math.Path.{refl, ap}
use Rattle.std.proofs.Common.{sym, ap₂, arith}
use Rattle.std.proofs.Math.Bool.{true, false}
use Prim.Native.Nat.{ℕ, zero, suc, ◌<◌}
use borrow.Author.Tests.{eqb-true, eqb-false}
use Rattle.arm_word.specs.Choice.{pick}
use Rattle.x_program.specs.Layout as layout
use Rattle.x_program.specs.Core.{constant, variable, element, monadic, diadic, skip, stop, assign, assign_element, sequence, conditional, loop}
use Rattle.x_program.specs.Table.{below, at_row, word, monadic_of, diadic_of, variable_in, array_in, expression_of, expression_at, process_of, process_at}

-- ── a value for each row ──
module _ {A : Type 0} (d : A) (make : ℕ → (ℕ → A) → A) where
  step : (n c : ℕ) (b : Bool) → eqb c n ≡ b → (c < n → below d make n c ≡ at_row d make c) → c < suc n → pick b (make n (below d make n)) (below d make n c) ≡ at_row d make c
  unfolding at_row
  step n c true e ih h = ap (λ (m : ℕ). make m (below d make m)) (sym (eqb-true c n e))
  step n c false e ih h = ih (let g = eqb-false c n e in omega arith)

  -- an earlier row's value is its own
  pub below_at : (n c : ℕ) → c < n → below d make n c ≡ at_row d make c
  unfolding below
  below_at zero c h = absurd (omega arith)
  below_at (suc n) c h = step n c (eqb c n) refl (below_at n c) h

-- ── one law a kind ──
module _ (t : List ℕ) (r : ℕ) where
  earlier_expression : (c : ℕ) → c < r → below (constant 0) (expression_of t) r c ≡ expression_at t c
  unfolding expression_at
  earlier_expression c h = below_at (constant 0) (expression_of t) r c h

  earlier_process : (c : ℕ) → c < r → below skip (process_of t) r c ≡ process_at t c
  unfolding process_at
  earlier_process c h = below_at skip (process_of t) r c h

  pub at_constant : word t r 0 ≡ layout.number → expression_at t r ≡ constant (word t r 1)
  unfolding expression_at at_row
  at_constant e = rw e

  pub at_variable : word t r 0 ≡ layout.variable → expression_at t r ≡ variable (variable_in t (word t r 1))
  unfolding expression_at at_row
  at_variable e = rw e

  pub at_element : word t r 0 ≡ layout.element → word t r 2 < r → expression_at t r ≡ element (array_in t (word t r 1)) (expression_at t (word t r 2))
  unfolding expression_at at_row
  at_element e h = rw e (ap (element (array_in t (word t r 1))) (earlier_expression (word t r 2) h))

  pub at_monadic : word t r 0 ≡ layout.monadic → word t r 2 < r → expression_at t r ≡ monadic (monadic_of (word t r 1)) (expression_at t (word t r 2))
  unfolding expression_at at_row
  at_monadic e h = rw e (ap (monadic (monadic_of (word t r 1))) (earlier_expression (word t r 2) h))

  pub at_diadic : word t r 0 ≡ layout.diadic → word t r 2 < r → word t r 3 < r
      → expression_at t r ≡ diadic (diadic_of (word t r 1)) (expression_at t (word t r 2)) (expression_at t (word t r 3))
  unfolding expression_at at_row
  at_diadic e h k = rw e (ap₂ (diadic (diadic_of (word t r 1))) (earlier_expression (word t r 2) h) (earlier_expression (word t r 3) k))

  pub at_skip : word t r 0 ≡ layout.skip → process_at t r ≡ skip
  unfolding process_at at_row
  at_skip e = rw e

  pub at_stop : word t r 0 ≡ layout.stop → process_at t r ≡ stop
  unfolding process_at at_row
  at_stop e = rw e

  pub at_assign : word t r 0 ≡ layout.assign → process_at t r ≡ assign (variable_in t (word t r 1)) (expression_at t (word t r 2))
  unfolding process_at at_row
  at_assign e = rw e

  pub at_assign_element : word t r 0 ≡ layout.assign_element
      → process_at t r ≡ assign_element (array_in t (word t r 1)) (expression_at t (word t r 2)) (expression_at t (word t r 3))
  unfolding process_at at_row
  at_assign_element e = rw e

  pub at_sequence : word t r 0 ≡ layout.sequence → word t r 1 < r → word t r 2 < r → process_at t r ≡ sequence (process_at t (word t r 1)) (process_at t (word t r 2))
  unfolding process_at at_row
  at_sequence e h k = rw e (ap₂ sequence (earlier_process (word t r 1) h) (earlier_process (word t r 2) k))

  pub at_conditional : word t r 0 ≡ layout.if → word t r 2 < r → word t r 3 < r
      → process_at t r ≡ conditional (expression_at t (word t r 1)) (process_at t (word t r 2)) (process_at t (word t r 3))
  unfolding process_at at_row
  at_conditional e h k = rw e (ap₂ (conditional (expression_at t (word t r 1))) (earlier_process (word t r 2) h) (earlier_process (word t r 3) k))

  pub at_loop : word t r 0 ≡ layout.while → word t r 2 < r → process_at t r ≡ loop (expression_at t (word t r 1)) (process_at t (word t r 2))
  unfolding process_at at_row
  at_loop e h = rw e (ap (loop (expression_at t (word t r 1))) (earlier_process (word t r 2) h))
