-- A run is its steps: the step rule iterated, the run's count against the iterations that succeeded, and two runs in a row. Rests on MachineRun, Turns and StepLaws.
use Rattle.std.specs.Prelude.{◌≡◌, refl, Bool, true, false, List, [], ◌∷◌, ℕ, zero, suc, ◌+◌, length, eqb}
use Rattle.std.proofs.Common.{sym, ◌∙◌, add-zero, zero-add, add_assoc, arith, eqb-true, eq-eqb}
use Rattle.std.proofs.Math.Path.{ap}
use Rattle.std.proofs.lemmas.Bool.{lt-leb}
use Rattle.arm_word.specs.Choice.{pick}
use Rattle.arm_word.specs.ChoiceLaws.{by_test}
use Rattle.arm_state.specs.Effects.{After, after, done, fault, stops}
use Rattle.arm_state.specs.declared.Machine.{Machine}
use Rattle.arm_state.specs.declared.Stepped.{Stepped}
use Rattle.arm_machine.specs.Step.{once_of, step_count, refusal_of, step_of}
use Rattle.arm_machine.specs.MachineRun.{RunAfter, run_after, ran, onward, run_from, run_of}
use Rattle.arm_machine.specs.Turns.{run_from_add}
use Rattle.arm_machine.specs.StepLaws.{refusal_large, once_length, once_done, once_registers}

-- ── the iterations ──

-- the step rule iterated: at most n steps, each from where the one before left state and words; the first that isn't an ordinary completion is the last
unfoldable pub iterations : ℕ → List ℕ → List ℕ → Machine → List After
iterations zero c w m = []
iterations (suc n) c w m =
    let a = (step_of c w m).after in
    a ∷ pick (eqb a.state.status 0) (iterations n c a.words a.state.machine) []

-- "reports how many completed": the sum of what the iterations count as steps
unfoldable pub successes : List After → ℕ
successes [] = 0
successes (a ∷ more) = step_count a.state.status + successes more

-- the last of some, or x
unfoldable pub last_of : After → List After → After
last_of x [] = x
last_of x (a ∷ more) = last_of a more

-- what a run that made these iterations reports: the last one's answer, state and words, and how many succeeded
abbrev pub reported : ℕ → After → List After → RunAfter
reported k x its = run_after (ran (last_of x its).state (k + successes its)) (last_of x its).words

-- ── steps of a run aren't refused ──

step_is_once : (c w : List ℕ) (m : Machine) → refusal_of c w ≡ 0 → step_of c w m ≡ once_of c w m
unfolding step_of
step_is_once c w m r = rw (eq-eqb (refusal_of c w) 0 r)

-- a refusal goes by the lengths alone
refusal_length : (c w v : List ℕ) → length v ≡ length w → refusal_of c v ≡ refusal_of c w
unfolding refusal_of
refusal_length c w v e = rw e

still_accepted : (c w : List ℕ) (m : Machine) → refusal_of c w ≡ 0 → refusal_of c (once_of c w m).after.words ≡ 0
still_accepted c w m r = refusal_length c w (once_of c w m).after.words (once_length c w m) ∙ r

-- ── a run is its iterations ──

turn : (k : ℕ) (x a : After) (its : List After) (more : RunAfter) → (a.state.status ≡ 0 → more ≡ reported (k + step_count a.state.status) a its)
    → onward (eqb a.state.status 0) more a (k + step_count a.state.status) ≡ reported k x (a ∷ pick (eqb a.state.status 0) its [])
unfolding successes last_of
turn k x a its more h =
    let j = step_count a.state.status in
    by_test (λ t. onward t more a (k + j) ≡ reported k x (a ∷ pick t its [])) (eqb a.state.status 0)
    (λ e. h (eqb-true a.state.status 0 e) ∙ ap (λ (i : ℕ). run_after (ran (last_of a its).state i) (last_of a its).words) (add_assoc k j (successes its)))
    (λ e. ap (λ (i : ℕ). run_after (ran a.state i) a.words) (omega arith))

run_from_iterations : (n k : ℕ) (c w : List ℕ) (m : Machine) → refusal_of c w ≡ 0 → run_from n k c w m ≡ reported k (after (done m) w) (iterations n c w m)
unfolding run_from iterations
run_from_iterations zero k c w m r = unfold successes last_of in ap (λ (j : ℕ). run_after (ran (done m) j) w) (sym (add-zero k))
run_from_iterations (suc n) k c w m r =
    let a = (once_of c w m).after in
    let j = k + step_count a.state.status in
    let its = iterations n c a.words a.state.machine in
    rw (step_is_once c w m r)
    (turn k (after (done m) w) a its (run_from n j c a.words a.state.machine)
    (λ z. run_from_iterations n j c a.words a.state.machine (still_accepted c w m r) ∙ ap (λ (s : Stepped). reported j (after s a.words) its) (sym (once_done c w m z))))

-- a run hands back the last iteration's answer, state and words, and counts those that succeeded
pub run_is_iterations : (n : ℕ) (c w : List ℕ) (m : Machine) → refusal_of c w ≡ 0 → run_of n c w m ≡ reported 0 (after (done m) w) (iterations n c w m)
unfolding run_of
run_is_iterations n c w m r = rw (eq-eqb (refusal_of c w) 0 r) (run_from_iterations n 0 c w m r)

-- "the number equals the count of successful iterations of the step definition"
pub run_count : (n : ℕ) (c w : List ℕ) (m : Machine) → refusal_of c w ≡ 0 → (run_of n c w m).state.count ≡ successes (iterations n c w m)
run_count n c w m r = ap (λ (x : RunAfter). x.state.count) (run_is_iterations n c w m r) ∙ zero-add _

-- ── a run of one is a step ──

-- with limit 1 a run hands back what a step does, refused or not, and counts what the step counts
pub run_one : (c w : List ℕ) (m : Machine) → let a = (step_of c w m).after in run_of 1 c w m ≡ run_after (ran a.state (step_count a.state.status)) a.words
unfolding run_of step_of run_from
run_one c w m =
    by_test (λ t. let a = (pick t (once_of c w m) (stops w (fault m r))).after in
    pick t (run_from 1 0 c w m) (run_after (ran (fault m r) 0) w) ≡ run_after (ran a.state (step_count a.state.status)) a.words) (eqb r 0)
    (λ _. once)
    (λ e. rw (lt-leb r 1 (refusal_large c w e)))
  where
    r : ℕ
    r = refusal_of c w

    once : let a = (once_of c w m).after in run_from 1 0 c w m ≡ run_after (ran a.state (step_count a.state.status)) a.words
    once =
        let a = (once_of c w m).after in
        let j = step_count a.state.status in
        by_test (λ t. onward t (run_after (ran (done a.state.machine) (0 + j)) a.words) a (0 + j) ≡ run_after (ran a.state j) a.words) (eqb a.state.status 0)
        (λ e. rw (zero-add j) (ap (λ (s : Stepped). run_after (ran s j) a.words) (sym (once_done c w m (eqb-true a.state.status 0 e)))))
        (λ e. rw (zero-add j))

-- a run's report with k more completed before it
abbrev pub counted : ℕ → RunAfter → RunAfter
counted k r = run_after (record { machine = r.state.machine; status = r.state.status; number = r.state.number; count = k + r.state.count }) r.words

run_from_counted : (n k : ℕ) (c w : List ℕ) (m : Machine) → refusal_of c w ≡ 0 → run_from n k c w m ≡ counted k (run_from n 0 c w m)
run_from_counted n k c w m r =
    let its = iterations n c w m in
    let l = last_of (after (done m) w) its in
    run_from_iterations n k c w m r
    ∙ sym (ap (counted k) (run_from_iterations n 0 c w m r) ∙ ap (λ (j : ℕ). run_after (ran l.state (k + j)) l.words) (zero-add (successes its)))

run_from_length : (n k : ℕ) (c w : List ℕ) (m : Machine) → length (run_from n k c w m).words ≡ length w
unfolding run_from
run_from_length zero k c w m = refl
run_from_length (suc n) k c w m =
    let a = (once_of c w m).after in
    let j = k + step_count a.state.status in
    go (eqb a.state.status 0) j (run_from n j c a.words a.state.machine) a (once_length c w m) (run_from_length n j c a.words a.state.machine ∙ once_length c w m)
  where
    go : (t : Bool) (j : ℕ) (more : RunAfter) (a : After) → length a.words ≡ length w → length more.words ≡ length w → length (onward t more a j).words ≡ length w
    go true j more a p q = q
    go false j more a p q = p

pub run_length : (n : ℕ) (c w : List ℕ) (m : Machine) → length (run_of n c w m).words ≡ length w
unfolding run_of
run_length n c w m =
    by_test (λ t. length (pick t (run_from n 0 c w m) (run_after (ran (fault m (refusal_of c w)) 0) w)).words ≡ length w) (eqb (refusal_of c w) 0)
    (λ _. run_from_length n 0 c w m)
    (λ _. refl)

-- ── the registers ──

run_from_registers : (n k : ℕ) (c w : List ℕ) (m : Machine) → length (run_from n k c w m).state.machine.regs ≡ length m.regs
unfolding run_from
run_from_registers zero k c w m = refl
run_from_registers (suc n) k c w m =
    let a = (once_of c w m).after in
    let j = k + step_count a.state.status in
    let more = run_from n j c a.words a.state.machine in
    by_test (λ t. length (onward t more a j).state.machine.regs ≡ length m.regs) (eqb a.state.status 0)
    (λ _. run_from_registers n j c a.words a.state.machine ∙ once_registers c w m)
    (λ _. once_registers c w m)

-- a run leaves as many registers as there were
pub run_registers : (n : ℕ) (c w : List ℕ) (m : Machine) → length (run_of n c w m).state.machine.regs ≡ length m.regs
unfolding run_of
run_registers n c w m =
    by_test (λ t. length (pick t (run_from n 0 c w m) (run_after (ran (fault m (refusal_of c w)) 0) w)).state.machine.regs ≡ length m.regs) (eqb (refusal_of c w) 0)
    (λ _. run_from_registers n 0 c w m)
    (λ _. refl)

-- ── two runs in a row ──

-- a run that reached its limit wasn't refused
limit_accepted : (n : ℕ) (c w : List ℕ) (m : Machine) → (run_of n c w m).state.status ≡ 0 → refusal_of c w ≡ 0
unfolding run_of
limit_accepted n c w m =
    by_test (λ t. (pick t (run_from n 0 c w m) (run_after (ran (fault m (refusal_of c w)) 0) w)).state.status ≡ 0 → refusal_of c w ≡ 0) (eqb (refusal_of c w) 0)
    (λ e _. eqb-true (refusal_of c w) 0 e)
    (λ _ z. z)

run_accepted : (n : ℕ) (c w : List ℕ) (m : Machine) → refusal_of c w ≡ 0 → run_of n c w m ≡ run_from n 0 c w m
unfolding run_of
run_accepted n c w m r = rw (eq-eqb (refusal_of c w) 0 r)

-- a limit of a, then one of b, is one of a + b, while nothing ended
pub run_add : (a b : ℕ) (c w : List ℕ) (m : Machine) → (run_of a c w m).state.status ≡ 0
    → run_of (a + b) c w m ≡ counted (run_of a c w m).state.count (run_of b c (run_of a c w m).words (run_of a c w m).state.machine)
run_add a b c w m z =
    let r = limit_accepted a c w m z in
    let x = run_from a 0 c w m in
    let x≡ = run_accepted a c w m r in
    let r' : refusal_of c x.words ≡ 0 = refusal_length c w x.words (run_from_length a 0 c w m) ∙ r in
    run_accepted (a + b) c w m r
    ∙ run_from_add a b 0 c w m (ap (λ (y : RunAfter). y.state.status) (sym x≡) ∙ z)
    ∙ run_from_counted b x.state.count c x.words x.state.machine r'
    ∙ ap (counted x.state.count) (sym (run_accepted b c x.words x.state.machine r'))
    ∙ ap (λ (y : RunAfter). counted y.state.count (run_of b c y.words y.state.machine)) (sym x≡)

-- "Limit 0, if not refused, does nothing"
pub run_none : (c w : List ℕ) (m : Machine) → refusal_of c w ≡ 0 → run_of 0 c w m ≡ run_after (ran (done m) 0) w
unfolding run_from
run_none c w m r = run_accepted 0 c w m r
