-- One step. Definitions.
use Rattle.std.specs.Prelude.{ℕ, ◌+◌, ◌*◌, ◌%◌, List, Option, Some, None, length, get_or, ltb, leb, eqb}
use Rattle.arm_word.specs.Choice.{pick}
use Rattle.arm_encoding.specs.Encoding.{decode_of}
use Rattle.arm_encoding.specs.declared.Instr.{Instr}
use Rattle.arm_classes.specs.Classes.{classify_of}
use Rattle.arm_state.specs.Effects.{Effect, fault, unsupported, stops, execute_of}
use Rattle.arm_state.specs.declared.Machine.{Machine}
use Rattle.arm_state.specs.declared.Stepped.{Stepped}

-- The machine: "Code is bytes at addresses 0 up, at most 65,536; data is lent words ... at most 16,384"
abbrev pub code_limit : ℕ
code_limit = 65536

abbrev pub memory_limit : ℕ
memory_limit = 16384

-- two bytes of code, the lower first
abbrev pub half_at : List ℕ → ℕ → ℕ
half_at c a = get_or c a 0 + 256 * get_or c (a + 1) 0

-- "21 ... a byte outside code (both halves for F000 to F7FF)"
unfoldable pub with_second : List ℕ → ℕ → ℕ → Option (ℕ × ℕ)
with_second c a h =
    pick (ltb h 0xF000) (Some (h, 0))
    (pick (ltb h 0xF800) (pick (leb (a + 4) (length c)) (Some (h, half_at c (a + 2))) None) (Some (h, 0)))

-- "21 pc odd or a byte outside code"
unfoldable pub fetch_of : List ℕ → ℕ → Option (ℕ × ℕ)
fetch_of c a = pick (eqb (a % 2) 0) (pick (leb (a + 2) (length c)) (with_second c a (half_at c a)) None) None

-- "22 not in this list", which request 2026-05 splits: 22 for what Armv6-M leaves undefined or unpredictable, "26, tested with it, for all else that we don't take"
abbrev pub unlisted : Machine → Option ℕ → Stepped
unlisted m None = fault m 22
unlisted m (Some class) = unsupported m class

-- halfwords and what they decode to
abbrev pub decoded : List ℕ → List ℕ → Machine → ℕ → ℕ → Option Instr → Effect
decoded c w m h k (Some i) = execute_of c w m i
decoded c w m h k None = stops w (unlisted m (classify_of h k))

abbrev pub fetched : List ℕ → List ℕ → Machine → Option (ℕ × ℕ) → Effect
fetched c w m (Some at) = decoded c w m at.0 at.1 (decode_of at.0 at.1)
fetched c w m None = stops w (fault m 21)

-- the step rule: fetch, decode, execute
unfoldable pub once_of : List ℕ → List ℕ → Machine → Effect
once_of c w m = fetched c w m (fetch_of c m.pc)

-- "reports how many completed, as the step rule counts them": 1 for a step that completed (status 0) or was an SVC (1), 0 for a fault or a refusal
abbrev pub step_count : ℕ → ℕ
step_count status = pick (leb status 1) 1 0

-- Refusals "of start, step and run 31 code too long, 32 memory too long": the number, or 0
unfoldable pub refusal_of : List ℕ → List ℕ → ℕ
refusal_of c w = pick (ltb code_limit (length c)) 31 (pick (ltb memory_limit (length w)) 32 0)

-- "a refused step ... hands back its state, ... memory is untouched"
abbrev pub unless_refused : ℕ → Effect → List ℕ → Machine → Effect
unless_refused n e w m = pick (eqb n 0) e (stops w (fault m n))

unfoldable pub step_of : List ℕ → List ℕ → Machine → Effect
step_of c w m = unless_refused (refusal_of c w) (once_of c w m) w m
