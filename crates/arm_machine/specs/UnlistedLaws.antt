-- Where pc stands at halfwords that are no instruction of the list, a step and a run hand on what they are, and nothing changes. Laws; rests on Step and MachineRun.
use Rattle.std.specs.Prelude.{◌≡◌, List, ℕ, suc, Option, Some, None}
use Rattle.std.proofs.Math.Path.{ap}
use Rattle.std.proofs.Common.{◌∙◌, eq-eqb}
use Rattle.arm_encoding.specs.Encoding.{decode_of}
use Rattle.arm_classes.specs.Classes.{classify_of}
use Rattle.arm_state.specs.Effects.{stops}
use Rattle.arm_state.specs.declared.Machine.{Machine}
use Rattle.arm_machine.specs.Step.{fetch_of, unlisted, decoded, fetched, once_of, refusal_of, step_of}
use Rattle.arm_machine.specs.MachineRun.{run_after, ran, run_from, run_of}

module _ (c w : List ℕ) (m : Machine) (h k : ℕ) (accepted : refusal_of c w ≡ 0) (at : fetch_of c m.pc ≡ Some (h, k)) (outside : decode_of h k ≡ None) where
  once_unlisted : once_of c w m ≡ stops w (unlisted m (classify_of h k))
  unfolding once_of
  once_unlisted = ap (fetched c w m) at ∙ ap (decoded c w m h k) outside

  -- 22, or 26 with the class; the state and the words of before, no access
  pub step_unlisted : step_of c w m ≡ stops w (unlisted m (classify_of h k))
  unfolding step_of
  step_unlisted = rw (eq-eqb (refusal_of c w) 0 accepted) once_unlisted

  -- and so does a run that begins here, with nothing counted; of one that comes here later it is the last iteration (`run_is_iterations`)
  pub run_unlisted : (n : ℕ) → run_of (suc n) c w m ≡ run_after (ran (unlisted m (classify_of h k)) 0) w
  unfolding run_of run_from
  run_unlisted n = rw (eq-eqb (refusal_of c w) 0 accepted) (stopped (classify_of h k) once_unlisted)
    where
      stopped : (s : Option ℕ) → once_of c w m ≡ stops w (unlisted m s) → run_from (suc n) 0 c w m ≡ run_after (ran (unlisted m s) 0) w
      stopped None e = rw e
      stopped (Some class) e = rw e
