-- What a walk counts: its steps are within the limit, and its accesses within its steps, since each row that is begun makes at most one. Laws; rests on TableRun.
use Rattle.std.specs.Prelude.{Bool, eqb, ltb}
use mathlib.Core.List.{List, [], ◌∷◌, ◌++◌}
use Prim.Native.Nat.{ℕ, zero, suc, ◌+◌, ◌≤◌}
use native.Mathlib.Omega.{arith}
use Rattle.std.proofs.Math.ListN.{length}
use Rattle.std.proofs.Common.{length-append}
use Rattle.arm_word.specs.Choice.{pick}
use Rattle.arm_word.specs.ChoiceLaws.{by_test}
use Rattle.arm_word.specs.Access.{Access}
use Rattle.x_program.specs.Layout as layout
use Rattle.x_program.specs.Table.{word}
use Rattle.x_meaning.specs.SourceRun.{End, going, finish, stopped, bad_subscript, top, rest}
use Rattle.x_meaning.specs.TableRun.{Item, begin, work₁, work₂, check, load, set_variable, store, choose, repeat, State, next, ended, length_of, settle, begun, turn_by, turn, walked, is_going}
use Rattle.x_meaning.specs.TableRun.{walk_from}
use Rattle.x_meaning.specs.TableCounts.{pending, due}

record Few (n : ℕ) (x : State) : Type 0 where
  few : due x ≤ n

one_more : (l : List Access) (a : Access) (n m : ℕ) → n ≤ length (l ++ a ∷ []) + m → n ≤ length l + suc m
one_more l a n m h = omega (arith, length-append l (a ∷ []))

module _ (t : List ℕ) where
  settle_due : (c : List Item) (d : List ℕ) (l : List Access) (s : List ℕ) → due (settle t c d l s) ≤ length l + pending c
  unfolding settle
  settle_due [] d l s = omega arith
  settle_due (begin r ∷ c) d l s = omega arith
  settle_due (work₁ r ∷ c) d l s = settle_due c d l _
  settle_due (work₂ r ∷ c) d l s = settle_due c d l _
  settle_due (check r ∷ c) d l s =
      by_test (λ (z : Bool). due (pick z (settle t c d l s) (ended d l bad_subscript)) ≤ length l + pending c) (ltb (top s) (length_of t r)) (λ _. settle_due c d l s) (λ _. omega arith)
  settle_due (load r ∷ c) d l s = one_more l _ _ _ (settle_due c d _ _)
  settle_due (set_variable r ∷ c) d l s = settle_due c _ l _
  settle_due (store r ∷ c) d l s = one_more l _ _ _ (settle_due c _ _ _)
  settle_due (choose r ∷ c) d l s = omega arith
  settle_due (repeat r ∷ c) d l s =
      by_test (λ (z : Bool). due (pick z (settle t c d l (rest s)) (next d l (word t r 2) (begin r ∷ c) (rest s))) ≤ length l + pending c) (eqb (top s) 0)
      (λ _. settle_due c d l (rest s)) (λ _. omega arith)

  -- a row makes one more access at most
  begun_due : (r : ℕ) (d : List ℕ) (l : List Access) (c : List Item) (s : List ℕ) → Few (length l + pending c + 1) (begun t r d l c s)
  unfolding begun
  begun_due r d l c s =
      by layout.number (settled (word t r 1 ∷ s))
      (by layout.variable (settled _)
      (by layout.element (record { few = omega arith })
      (by layout.monadic (record { few = omega arith })
      (by layout.diadic (record { few = omega arith })
      (by layout.skip (settled s)
      (by layout.stop (record { few = omega arith })
      (by layout.assign (record { few = omega arith })
      (by layout.assign_element (record { few = omega arith })
      (by layout.sequence (record { few = omega arith })
      (by layout.if (record { few = omega arith }) (record { few = omega arith })))))))))))
    where
      n : ℕ
      n = length l + pending c + 1

      by : {x y : State} (k : ℕ) → Few n x → Few n y → Few n (pick (eqb (word t r 0) k) x y)
      by {x} {y} k f g = by_test (λ (z : Bool). Few n (pick z x y)) (eqb (word t r 0) k) (λ _. f) (λ _. g)

      settled : (s : List ℕ) → Few n (settle t c d l s)
      settled s = record { few = omega (arith, settle_due c d l s) }

  pub turn_due : (x : State) → due (turn t x) ≤ due x + 1
  turn_due x = by x.end
    where
      by : (e : End) → due (turn_by t e x) ≤ due x + 1
      by going = (begun_due x.next x.words x.trace x.continuation x.stack).few
      by finish = omega arith
      by stopped = omega arith
      by bad_subscript = omega arith

  -- the whole walk, from a point at which k rows are counted
  pub trace_within : (n k : ℕ) (x : State) → due x ≤ k → length (walk_from n k t x).trace ≤ (walk_from n k t x).steps
  unfolding walk_from
  trace_within zero k x h = omega arith
  trace_within (suc n) k x h =
      by_test (λ (z : Bool). let w = pick z (walk_from n (k + 1) t (turn t x)) (walked k x) in length w.trace ≤ w.steps) (is_going x.end)
      (λ _. trace_within n (k + 1) (turn t x) (omega (arith, turn_due x)))
      (λ _. omega arith)

  pub steps_within : (n k : ℕ) (x : State) → (walk_from n k t x).steps ≤ k + n
  unfolding walk_from
  steps_within zero k x = omega arith
  steps_within (suc n) k x =
      by_test (λ (z : Bool). (pick z (walk_from n (k + 1) t (turn t x)) (walked k x)).steps ≤ k + suc n) (is_going x.end)
      (λ _. omega (arith, steps_within n (k + 1) (turn t x)))
      (λ _. omega arith)
