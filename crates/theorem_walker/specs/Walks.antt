-- A walk with limit n tells of the point after n rows begun; a move keeps the number of words, and after an end nothing changes. Laws; they rest on the definitions of the two runs.
use Rattle.std.specs.Prelude.{◌≡◌, Bool, true, false, List, [], ◌∷◌, length}
use Rattle.std.proofs.Math.Path.{refl, ap}
use Rattle.std.proofs.Common.{sym, ◌∙◌, length-set, eqb-true}
use Prim.Native.Nat.{ℕ, zero, suc, ◌+◌, ◌<◌}
use native.Mathlib.Omega.{arith}
use Rattle.arm_word.specs.Choice.{pick}
use Rattle.arm_word.specs.ChoiceLaws.{by_test}
use Rattle.arm_word.specs.Access.{Access}
use Rattle.x_program.specs.Tree.{Expression, constant, variable, element, monadic, diadic, bracket, Process, skip, stop, assign, assign_element, braces, conditional, loop}
use Rattle.x_meaning.specs.SourceRun as source
use Rattle.x_meaning.specs.SourceRun.{Item, evaluate, work₁, work₂, check, load, execute, set_variable, store, choose, repeat, End, going, finish, stopped, bad_subscript, top, rest}
use Rattle.x_meaning.specs.SourceRun.{move_expression, move_process, move_item, move_going, move_by, move, moves, ends_with}
use Rattle.x_meaning.specs.TableRun.{State, turn_by, turn, status_of, number_of, is_going, walked, walk_from}
use Rattle.theorem_simulation.specs.Generic.{times, times_stays}
use Rattle.theorem_simulation.proofs.Demand3Proof.{moves_times}

-- ── ends ──

-- no refusal: 0 or 1
pub status_few : (e : End) → status_of e < 2
status_few going = omega arith
status_few finish = omega arith
status_few stopped = omega arith
status_few bad_subscript = omega arith

-- 0 is the limit
over_status : (e : End) → is_going e ≡ false → status_of e ≡ 1
over_status going h = let z : ◌≡◌ {A = ℕ} 0 1 = cc in absurd (omega arith)
over_status finish h = refl
over_status stopped h = refl
over_status bad_subscript h = refl

-- an end by its number, and back
pub ends_so : (e : End) → status_of e ≡ 1 → ends_with e (number_of e) ≡ true
ends_so going h = absurd (omega arith)
ends_so finish h = refl
ends_so stopped h = refl
ends_so bad_subscript h = refl

-- what a walk tells of an end that SVC n is
pub record Tells (e : End) (n : ℕ) : Type 0 where
  pub no_more : is_going e ≡ false
  pub status : status_of e ≡ 1
  pub number : number_of e ≡ n

pub tells : (e : End) (n : ℕ) → ends_with e n ≡ true → Tells e n
tells going n h = let z : ◌≡◌ {A = ℕ} 0 1 = cc in absurd (omega arith)
tells finish n h = record { no_more = refl; status = refl; number = sym (eqb-true n 0 h) }
tells stopped n h = record { no_more = refl; status = refl; number = sym (eqb-true n 1 h) }
tells bad_subscript n h = record { no_more = refl; status = refl; number = sym (eqb-true n 2 h) }

-- ── a walk as so many turns ──

module _ (t : List ℕ) where
  -- after an end nothing changes
  pub turn_over : (x : State) → is_going x.end ≡ false → turn t x ≡ x
  turn_over x h = by x.end h
    where
      by : (e : End) → is_going e ≡ false → turn_by t e x ≡ x
      by going h = let z : ◌≡◌ {A = ℕ} 0 1 = cc in absurd (omega arith)
      by finish h = refl
      by stopped h = refl
      by bad_subscript h = refl

  -- after the limit's rows, or an end before it
  pub walk_turns : (n k : ℕ) (x : State) → walk_from n k t x ≡ walked (walk_from n k t x).steps (times (turn t) n x)
  unfolding walk_from
  walk_turns zero k x = refl
  walk_turns (suc n) k x =
      by_test (λ (b : Bool). let w = pick b (walk_from n (k + 1) t (turn t x)) (walked k x) in w ≡ walked w.steps (times (turn t) (suc n) x)) (is_going x.end)
      (λ _. walk_turns n (k + 1) (turn t x))
      (λ h. ap (walked k) (sym (times_stays (turn t) (suc n) x (turn_over x h))))

  -- a limit that is told of was used up
  pub steps_used : (n k : ℕ) (x : State) → (walk_from n k t x).status ≡ 0 → (walk_from n k t x).steps ≡ k + n
  unfolding walk_from
  steps_used zero k x = λ _. omega arith
  steps_used (suc n) k x =
      by_test (λ (b : Bool). let w = pick b (walk_from n (k + 1) t (turn t x)) (walked k x) in w.status ≡ 0 → w.steps ≡ k + suc n) (is_going x.end)
      (λ _ e. omega (arith, steps_used n (k + 1) (turn t x) e))
      (λ h e. absurd (omega (arith, over_status x.end h)))

-- ── the source's moves ──

-- some, then some more
pub moves_more : (j k : ℕ) (s : source.State) → moves k (moves j s) ≡ moves (j + k) s
moves_more zero k s = let e : 0 + k ≡ k = omega arith in rw e
moves_more (suc j) k s = let e : suc j + k ≡ suc (j + k) = omega arith in rw e (moves_more j k (move s))

-- after an end nothing changes
pub moves_over : (j : ℕ) (s : source.State) → is_going s.end ≡ false → moves j s ≡ s
moves_over j s h = sym (moves_times j s) ∙ times_stays move j s (by s.end h)
  where
    by : (e : End) → is_going e ≡ false → move_by e s ≡ s
    by going h = let z : ◌≡◌ {A = ℕ} 0 1 = cc in absurd (omega arith)
    by finish h = refl
    by stopped h = refl
    by bad_subscript h = refl

-- what is begun changes no word
words_expression : (e : Expression) (d : List ℕ) (a : List Access) (c : List Item) (s : List ℕ) → (move_expression e d a c s).words ≡ d
words_expression (constant w) d a c s = refl
words_expression (variable v) d a c s = refl
words_expression (element x e) d a c s = refl
words_expression (monadic o e) d a c s = refl
words_expression (diadic o e f) d a c s = refl
words_expression (bracket e) d a c s = refl

words_process : (p : Process) (d : List ℕ) (a : List Access) (c : List Item) (s : List ℕ) → (move_process p d a c s).words ≡ d
words_process skip d a c s = refl
words_process stop d a c s = refl
words_process (assign v e) d a c s = refl
words_process (assign_element x i e) d a c s = refl
words_process (braces ps) d a c s = refl
words_process (conditional e p q) d a c s = refl
words_process (loop e p) d a c s = refl

-- no move changes the number of words
length_item : (i : Item) (d : List ℕ) (a : List Access) (c : List Item) (s : List ℕ) → length (move_item i d a c s).words ≡ length d
length_item (evaluate e) d a c s = ap length (words_expression e d a c s)
length_item (work₁ o) d a c s = refl
length_item (work₂ o) d a c s = refl
length_item (check x) d a c s = refl
length_item (load x) d a c s = refl
length_item (execute p) d a c s = ap length (words_process p d a c s)
length_item (set_variable v) d a c s = length-set d v.offset (top s)
length_item (store x) d a c s = length-set d (x.offset + top (rest s)) (top s)
length_item (choose p q) d a c s = refl
length_item (repeat e p) d a c s = refl

length_move : (s : source.State) → length (move s).words ≡ length s.words
length_move s = by s.end
  where
    going_on : (c : List Item) → length (move_going s.words s.trace c s.stack).words ≡ length s.words
    going_on [] = refl
    going_on (i ∷ c) = length_item i s.words s.trace c s.stack

    by : (e : End) → length (move_by e s).words ≡ length s.words
    by going = going_on s.continuation
    by finish = refl
    by stopped = refl
    by bad_subscript = refl

pub length_moves : (j : ℕ) (s : source.State) → length (moves j s).words ≡ length s.words
length_moves zero s = refl
length_moves (suc j) s = length_moves j (move s) ∙ length_move s
