-- What `tried` lists are the run's own iterations: the states and words of the instructions tried are those that machine's law of a run reports. A step is a run of one.
-- Laws; they rest on Demand3 and machine's Iterations.
use Rattle.std.specs.Prelude.{◌≡◌, refl, Bool, true, false, List, [], ◌∷◌, map, ℕ, zero, suc, eqb}
use Rattle.std.proofs.Common.{sym, ap, ◌∙◌}
use Rattle.arm_word.specs.Choice.{pick}
use Rattle.arm_state.specs.Effects.{After, Effect}
use Rattle.arm_state.specs.declared.Machine.{Machine}
use Rattle.arm_machine.specs.Step.{step_of}
use Rattle.arm_machine.specs.MachineRun.{RunAfter}
use Rattle.arm_machine.specs.Iterations.{iterations, run_one}
use Rattle.theorem_simulation.specs.Demand3.{Call, step, run, tried, by_run, call}

map_pick : (b : Bool) (es : List Effect) → map (λ e. e.after) (pick b es []) ≡ pick b (map (λ e. e.after) es) []
map_pick true es = refl
map_pick false es = refl

pub tried_iterations : (n : ℕ) (code w : List ℕ) (m : Machine) → map (λ e. e.after) (tried n code w m) ≡ iterations n code w m
unfolding tried iterations
tried_iterations zero code w m = refl
tried_iterations (suc n) code w m =
    let e = step_of code w m in
    let ih = tried_iterations n code e.after.words e.after.state.machine in
    ap (λ (l : List After). e.after ∷ l) (map_pick (eqb e.after.state.status 0) _ ∙ ap (λ (l : List After). pick (eqb e.after.state.status 0) l []) ih)

-- how many instructions a call tries at most
abbrev pub most : Call → ℕ
most step = 1
most (run n) = n

-- so every call is a run
pub call_is_run : (code : List ℕ) (k : Call) (w : List ℕ) (m : Machine) → call code k w m ≡ call code (run (most k)) w m
call_is_run code step w m = ap (λ (r : RunAfter). by_run r (tried 1 code w m)) (sym (run_one code w m))
call_is_run code (run n) w m = refl
