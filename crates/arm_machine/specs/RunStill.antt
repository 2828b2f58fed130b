-- A run that completed nothing beside an SVC is where it was. Laws; rests on MachineRun and StepLaws.
use Rattle.std.specs.Prelude.{◌≡◌, refl, List, ℕ, zero, suc, ◌+◌, ◌≤◌, eqb}
use Rattle.std.proofs.Common.{arith, eqb-true, le-leb}
use Rattle.std.proofs.lemmas.Bool.{eqb-false}
use Rattle.arm_word.specs.Choice.{pick}
use Rattle.arm_word.specs.ChoiceLaws.{by_test}
use Rattle.arm_state.specs.Effects.{fault}
use Rattle.arm_state.specs.declared.Machine.{Machine}
use Rattle.arm_machine.specs.Step.{once_of, step_count, refusal_of}
use Rattle.arm_machine.specs.MachineRun.{run_after, ran, onward, svc_count, run_from, run_of}
use Rattle.arm_machine.specs.StepLaws.{once_kept}

-- an SVC is among the counted, and nothing that isn't counted is
svc_counted : (status : ℕ) → svc_count status ≤ step_count status
svc_counted status =
    by_test (λ t. pick t 1 0 ≤ step_count status) (eqb status 1)
    (λ e. let z = eqb-true status 1 e in rw (le-leb status 1 (omega arith)) (omega arith))
    (λ _. omega arith)

counts : (n k : ℕ) (c w : List ℕ) (m : Machine) → k + svc_count (run_from n k c w m).state.status ≤ (run_from n k c w m).state.count
unfolding run_from
counts zero k c w m = omega arith
counts (suc n) k c w m =
    let a = (once_of c w m).after in
    let j = k + step_count a.state.status in
    let more = run_from n j c a.words a.state.machine in
    by_test (λ t. k + svc_count (onward t more a j).state.status ≤ (onward t more a j).state.count) (eqb a.state.status 0)
    (λ _. omega (arith, counts n j c a.words a.state.machine))
    (λ _. omega (arith, svc_counted a.state.status))

still_from : (n k : ℕ) (c w : List ℕ) (m : Machine) → (run_from n k c w m).state.count ≤ k + svc_count (run_from n k c w m).state.status → (run_from n k c w m).state.machine ≡ m
unfolding run_from
still_from zero k c w m = λ h. refl
still_from (suc n) k c w m =
    let a = (once_of c w m).after in
    let j = k + step_count a.state.status in
    let more = run_from n j c a.words a.state.machine in
    by_test (λ t. (onward t more a j).state.count ≤ k + svc_count (onward t more a j).state.status → (onward t more a j).state.machine ≡ m) (eqb a.state.status 0)
    (λ e h. absurd (let z = eqb-true a.state.status 0 e in
    let s : step_count a.state.status ≡ 1 = rw (le-leb a.state.status 1 (omega arith)) in
    omega (arith, counts n j c a.words a.state.machine)))
    (λ e h. let z = eqb-false a.state.status 0 e in once_kept c w m (omega (arith, z)))

pub run_still : (n : ℕ) (c w : List ℕ) (m : Machine) → (run_of n c w m).state.count ≤ svc_count (run_of n c w m).state.status → (run_of n c w m).state.machine ≡ m
unfolding run_of
run_still n c w m =
    by_test (λ t. (pick t (run_from n 0 c w m) (run_after (ran (fault m (refusal_of c w)) 0) w)).state.count
    ≤ svc_count (pick t (run_from n 0 c w m) (run_after (ran (fault m (refusal_of c w)) 0) w)).state.status
    → (pick t (run_from n 0 c w m) (run_after (ran (fault m (refusal_of c w)) 0) w)).state.machine ≡ m) (eqb (refusal_of c w) 0)
    (λ _ h. still_from n 0 c w m (omega arith))
    (λ _ _. refl)
