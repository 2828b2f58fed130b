-- A turn of a run, by what the step answered; and two runs in a row. Laws; rests on MachineRun.
use Rattle.std.specs.Prelude.{◌≡◌, refl, Bool, true, false, List, ℕ, zero, suc, ◌+◌, ◌-◌, ◌<◌, ◌≤◌, eqb}
use Rattle.std.proofs.Common.{add-zero, zero-add, suc-add, arith}
use borrow.Author.Tests.{ne_eqb, eqb-false, lt-leb}
use Rattle.arm_state.specs.Effects.{After, done}
use Rattle.arm_state.specs.declared.Machine.{Machine}
use Rattle.arm_machine.specs.Step.{once_of, step_count}
use Rattle.arm_machine.specs.MachineRun.{RunAfter, run_after, ran, onward, run_from}

module _ (l k : ℕ) (c w : List ℕ) (m : Machine) (a : After) (e : a ≡ (once_of c w m).after) (h : k < l) where
  one_less : l - k ≡ suc (l - (k + 1))
  one_less = omega arith

  pub turn_more : a.state.status ≡ 0 → run_from (l - k) k c w m ≡ run_from (l - (k + 1)) (k + 1) c a.words a.state.machine
  unfolding run_from
  turn_more s = rw (one_less, ← e, s)

  pub turn_ended : a.state.status ≡ 1 → run_from (l - k) k c w m ≡ run_after (ran a.state (k + 1)) a.words
  unfolding run_from
  turn_ended s = rw (one_less, ← e, s)

  pub turn_fault : (a.state.status ≡ 0 → ⊥) → (a.state.status ≡ 1 → ⊥) → run_from (l - k) k c w m ≡ run_after (ran a.state k) a.words
  unfolding run_from
  turn_fault s t =
      let large : 1 < a.state.status = omega (arith, s, t) in
      rw (one_less, ← e, ne_eqb _ 0 s, lt-leb _ 1 large, add-zero)

pub all_done : (l k : ℕ) (c w : List ℕ) (m : Machine) → l ≤ k → run_from (l - k) k c w m ≡ run_after (ran (done m) k) w
unfolding run_from
all_done l k c w m h = let z : l - k ≡ 0 = omega arith in rw z

-- ── two runs in a row ──

-- y goes on, by b more steps, where x stopped at its limit
abbrev Goes : ℕ → List ℕ → RunAfter → RunAfter → Type 0
Goes b c x y = x.state.status ≡ 0 → y ≡ run_from b x.state.count c x.words x.state.machine

onward_goes : (b : ℕ) (c : List ℕ) (x y : RunAfter) (a : After) (k : ℕ) (t : Bool) → eqb a.state.status 0 ≡ t → Goes b c x y → Goes b c (onward t x a k) (onward t y a k)
onward_goes b c x y a k true e g = g
onward_goes b c x y a k false e g = λ z. absurd (eqb-false a.state.status 0 e z)

pub run_from_add : (a b k : ℕ) (c w : List ℕ) (m : Machine) → Goes b c (run_from a k c w m) (run_from (a + b) k c w m)
unfolding run_from
run_from_add zero b k c w m = λ z. rw zero-add
run_from_add (suc a) b k c w m =
    let o = (once_of c w m).after in
    let j = k + step_count o.state.status in
    rw (suc-add a b)
    (onward_goes b c (run_from a j c o.words o.state.machine) (run_from (a + b) j c o.words o.state.machine) o j _ refl (run_from_add a b j c o.words o.state.machine))
