-- `arm_machine::run` meets its contract: invariant: the run from the start equals the run from here with the steps that are left; a turn is one of `Turns`' four laws.
-- Rests on the definitions that its contract cites; assumes nothing.
use mathlib.Core.Path.{◌≡◌}
use Prim.Native.Nat.{◌-◌, ◌≤◌}
use lib.ListN.{length}
use Rattle.arm_state.specs.MachineCore.{whole}
use Rattle.arm_machine.specs.MachineRun.{run_from}
use Rattle.arm_machine.proofs.run.Given as goal

abbrev pub invariant-loop-k : goal.invariant-loop-k
invariant-loop-k l =
    (run_from l.limit 0 l.code l.initial.memory (whole l.initial.core) ≡ run_from (l.limit - l.k) l.k l.code l.memory (whole l.core)) × ((l.k ≤ l.limit) × (length l.memory ≡ length l.initial.memory))
