-- No refusal has the number 0, and no fault the status of an instruction that completed or of an SVC. Laws; rest on Refusals and Stops.
use Rattle.std.specs.Prelude.{◌≡◌, refl, false, ◌<◌, ⊤, Result, Ok, Err, IsErrAnd, eqb}
use Rattle.std.proofs.Common.{ap, lit<}
use Rattle.arm_state.specs.Stops.{fault_number}
use Rattle.arm_state.specs.declared.Fault.{Fault}
use Rattle.arm_state.specs.declared.Fault.TheVariants.{Fetch, Undefined, Misaligned, Outside, Unsupported}
use Rattle.arm_machine.specs.Refusals.{number_of, answered}
use Rattle.arm_machine.specs.declared.Refusal.{Refusal}
use Rattle.arm_machine.specs.declared.Refusal.TheVariants.{CodeTooLong, MemoryTooLong, MemoryTooShort, ProgramTooLarge}

pub refusal_not_0 : (r : Refusal) → eqb (number_of r) 0 ≡ false
refusal_not_0 CodeTooLong = refl
refusal_not_0 MemoryTooLong = refl
refusal_not_0 MemoryTooShort = refl
refusal_not_0 ProgramTooLarge = refl

-- a refusal that is passed on
pub passed_on : (t : Result ⊤ Refusal) (r : Refusal) → IsErrAnd t (λ e. e ≡ r) → answered t ≡ number_of r
passed_on (Ok u) r p = absurd p
passed_on (Err e) r p = ap number_of p

pub fault_above_1 : (f : Fault) → 1 < fault_number f
fault_above_1 Fetch = lit< tt
fault_above_1 Undefined = lit< tt
fault_above_1 Misaligned = lit< tt
fault_above_1 Outside = lit< tt
fault_above_1 (Unsupported class) = lit< tt
