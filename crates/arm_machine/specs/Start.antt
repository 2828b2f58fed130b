-- The start. Definitions.
use Rattle.std.specs.Prelude.{ℕ, List, length, ltb, eqb}
use Rattle.arm_word.specs.Choice.{pick}
use Rattle.arm_state.specs.State.{needed, fresh_of, zeros}
use Rattle.arm_machine.specs.Step.{refusal_of}
use Rattle.arm_machine.specs.declared.Started.{Started}

-- Refusals: "of start, step and run 31 ..., 32 ...; of start then 34 D above 8,192 or N above 32, 33 fewer lent words than needed": the number, or 0
unfoldable pub start_refusal : List ℕ → List ℕ → ℕ → ℕ → ℕ
start_refusal c w d n =
    pick (eqb (refusal_of c w) 0)
    (pick (ltb 8192 d) 34 (pick (ltb 32 n) 34 (pick (ltb (length w) (needed d n)) 33 0)))
    (refusal_of c w)

-- "A refused start gives an all-zero state"
unfoldable pub start_of : List ℕ → List ℕ → ℕ → ℕ → Started
start_of c w d n =
    pick (eqb (start_refusal c w d n) 0)
    (record { status = 0; machine = fresh_of d n })
    (record { status = start_refusal c w d n; machine = zeros })
