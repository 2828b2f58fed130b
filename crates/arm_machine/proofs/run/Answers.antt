-- `arm_machine::run` meets its contract: invariant: the run from the start equals the run from here with the steps that are left; a turn is one of `Turns`' four laws.
use mathlib.Core.Path.{◌≡◌, refl, sym, ap, ◌∙◌}
use mathlib.Core.List.{List}
use mathlib.Core.Bool.{false}
use Prim.Native.Nat.{ℕ}
use native.Mathlib.Omega.{arith}
use lib.Dec.{eqb}
use Rattle.std.specs.Prelude.{Result}
use Rattle.arm_state.specs.MachineCore.{whole, stopped, turned}
use Rattle.arm_state.specs.Effects.{after, done, fault}
use Rattle.arm_state.specs.Stops.{status_of}
use Rattle.arm_state.specs.declared.Core.{Core}
use Rattle.arm_state.specs.declared.Machine.{Machine}
use Rattle.arm_state.specs.declared.Stopped.{Stopped}
use Rattle.arm_machine.specs.Step.{refusal_of}
use Rattle.arm_machine.specs.Refusals.{answered}
use Rattle.arm_machine.specs.MachineRun.{run_after, ran, run_from, run_of}
use Rattle.arm_machine.specs.Turns.{turn_more, turn_ended, turn_fault, all_done}
use Rattle.arm_machine.specs.declared.Ran.{Ran}
use Rattle.arm_machine.proofs.NumberLaws.{refusal_not_0, fault_above_1}
use Rattle.arm_machine.proofs.run.Goals as goal

refused : (n : ℕ) (c w : List ℕ) (m : Machine) (r : ℕ) → r ≡ refusal_of c w → eqb r 0 ≡ false → run_after (ran (fault m r) 0) w ≡ run_of n c w m
unfolding run_of
refused n c w m r e f = rw (← e, f)

unrefused : (n : ℕ) (c w : List ℕ) (m : Machine) → refusal_of c w ≡ 0 → run_from n 0 c w m ≡ run_of n c w m
unfolding run_of
unrefused n c w m e = rw e

pub returns-in-Err : goal.returns-in-Err
returns-in-Err c =
    let x = c.args in
    ap (λ (r : Ran). run_after r x.memory.now) c.refused.ensures
    ∙ refused x.limit _ _ _ _ (sym (ap answered c.in-Err.is) ∙ c.check_lengths.ensures) (refusal_not_0 _)

pub returns-in-Svc : goal.returns-in-Svc
returns-in-Svc c =
    let x = c.args in
    let lp = c.loop-k in
    let w = c.once.new.memory in
    let a = after (stopped c.in-Err-once.stopped) w in
    let e = sym (ap (λ (t : Result Core Stopped). turned t w) c.in-Err-once.is) ∙ c.once.ensures in
    ap (λ (r : Ran). run_after r w) c.stopped_after.ensures
    ∙ sym (lp.invariant.0 ∙ turn_ended x.limit lp.k x.code.now lp.memory (whole lp.core) a e c.loop-k-test.true (ap status_of c.in-Svc.is))
    ∙ unrefused x.limit _ _ _ (sym c.check_lengths.ensures ∙ ap answered c.in_default.is)
    ∙ ap (run_of x.limit _ _) c.from-core.ensures

pub returns-in-Err-once : goal.returns-in-Err-once
returns-in-Err-once c =
    let x = c.args in
    let lp = c.loop-k in
    let w = c.once.new.memory in
    let a = after (stopped c.in-Err-once.stopped) w in
    let e = sym (ap (λ (t : Result Core Stopped). turned t w) c.in-Err-once.is) ∙ c.once.ensures in
    let s = ap status_of c.in_default-stop.is in
    let l = fault_above_1 c.in_default-stop.field-0 in
    ap (λ (r : Ran). run_after r w) c.stopped_after-in-Err-once.ensures
    ∙ sym (lp.invariant.0 ∙ turn_fault x.limit lp.k x.code.now lp.memory (whole lp.core) a e c.loop-k-test.true (λ z. omega (arith, l, s)) (λ z. omega (arith, l, s)))
    ∙ unrefused x.limit _ _ _ (sym c.check_lengths.ensures ∙ ap answered c.in_default.is)
    ∙ ap (run_of x.limit _ _) c.from-core.ensures

pub loop-k-preserved : goal.loop-k-preserved
loop-k-preserved c =
    let x = c.args in
    let lp = c.loop-k in
    let w = c.once.new.memory in
    let a = after (done (whole c.in-Ok.next)) w in
    let e = sym (ap (λ (t : Result Core Stopped). turned t w) c.in-Ok.is) ∙ c.once.ensures in
    let on = turn_more x.limit lp.k x.code.now lp.memory (whole lp.core) a e c.loop-k-test.true refl in
    (lp.invariant.0 ∙ on, (omega arith, c.once.auto.memory ∙ lp.invariant.1.1))

pub returns : goal.returns
returns c =
    let x = c.args in
    let lp = c.loop-k in
    let k≡ : lp.k ≡ x.limit = omega arith in
    ap (λ (m : Machine). run_after (ran (done m) x.limit) lp.memory) c.from.ensures
    ∙ sym (lp.invariant.0 ∙ all_done x.limit lp.k x.code.now lp.memory (whole lp.core) c.loop-k-test.false ∙ ap (λ (k : ℕ). run_after (ran (done (whole lp.core)) k) lp.memory) k≡)
    ∙ unrefused x.limit _ _ _ (sym c.check_lengths.ensures ∙ ap answered c.in_default.is)
    ∙ ap (run_of x.limit _ _) c.from-core.ensures
