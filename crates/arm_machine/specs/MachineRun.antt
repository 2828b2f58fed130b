-- A run of steps. Definitions.
use Rattle.std.specs.Prelude.{ℕ, zero, suc, ◌+◌, Bool, true, false, List, eqb}
use Rattle.arm_word.specs.Choice.{pick}
use Rattle.arm_state.specs.Effects.{After, fault, done}
use Rattle.arm_state.specs.declared.Machine.{Machine}
use Rattle.arm_state.specs.declared.Stepped.{Stepped}
use Rattle.arm_machine.specs.Step.{once_of, step_count, refusal_of}
use Rattle.arm_machine.specs.declared.Ran.{Ran}

-- what a run hands back, and the words of data after it
pub record RunAfter : Type 0 where
  pub state : Ran
  pub words : List ℕ

abbrev pub run_after : Ran → List ℕ → RunAfter
run_after s w = record { state = s; words = w }

-- a run that stopped as this step did, with so many instructions completed
abbrev pub ran : Stepped → ℕ → Ran
ran s n = record { machine = s.machine; status = s.status; number = s.number; count = n }

-- after a step: on, or, "SVC of any number ends the run", as it stopped, with k counted
abbrev pub onward : Bool → RunAfter → After → ℕ → RunAfter
onward true more a k = more
onward false more a k = run_after (ran a.state k) a.words

-- of what a run counted, the SVC that ended it, if one did
abbrev pub svc_count : ℕ → ℕ
svc_count status = pick (eqb status 1) 1 0

-- The machine: "it goes on step by step until the limit is reached, unless SVC or a fault ends it before": at most n more steps, k being counted.
-- "SVC ... counts; a faulting instruction doesn't count": the count is the sum of the steps'
unfoldable pub run_from : ℕ → ℕ → List ℕ → List ℕ → Machine → RunAfter
run_from zero k c w m = run_after (ran (done m) k) w
run_from (suc n) k c w m =
    let a = (once_of c w m).after in
    let counted = k + step_count a.state.status in
    let more = run_from n counted c a.words a.state.machine in
    onward (eqb a.state.status 0) more a counted

-- "a refused step or run hands back its state, 0 instructions done"; "Limit 0, if not refused, does nothing"
unfoldable pub run_of : ℕ → List ℕ → List ℕ → Machine → RunAfter
run_of n c w m = pick (eqb (refusal_of c w) 0) (run_from n 0 c w m) (run_after (ran (fault m (refusal_of c w)) 0) w)
