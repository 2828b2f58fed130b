-- Why a call is refused, in document 01's numbers. Definitions.
use Rattle.std.specs.Prelude.{ℕ, ⊤, Result, Ok, Err}
use Rattle.arm_machine.specs.declared.Refusal.{Refusal}
use Rattle.arm_machine.specs.declared.Refusal.TheVariants.{CodeTooLong, MemoryTooLong, MemoryTooShort, ProgramTooLarge}

-- Refusals: "of start, step and run 31 code too long, 32 memory too long; of start then 34 D above 8,192 or N above 32, 33 fewer lent words than needed"
abbrev pub number_of : Refusal → ℕ
number_of CodeTooLong = 31
number_of MemoryTooLong = 32
number_of MemoryTooShort = 33
number_of ProgramTooLarge = 34

-- the number of a refusal, 0 of none
abbrev pub answered : Result ⊤ Refusal → ℕ
answered (Ok u) = 0
answered (Err r) = number_of r
