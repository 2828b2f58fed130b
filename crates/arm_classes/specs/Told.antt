-- What two halfwords are: an instruction of the list, undefined or unpredictable, or of a class. Definitions.
use Rattle.std.specs.Prelude.{◌≡◌, true, false, List, [], ◌∷◌, ℕ, ◌≤◌, Some, None}
use Rattle.arm_encoding.specs.Encoding.{decode_of}
use Rattle.arm_encoding.specs.EncodingTable.{listed}
use Rattle.arm_encoding.specs.declared.Instr.{Instr}
use Rattle.arm_classes.specs.Classes.{defined, classify_of}

-- the classes that can be met: 4, 6, 7 and 12 are taken whole
abbrev pub met : List ℕ
met = 1 ∷ 2 ∷ 3 ∷ 5 ∷ 8 ∷ 9 ∷ 10 ∷ 11 ∷ 13 ∷ []

-- what two halfwords are: one of these, and no two of them, whose equations exclude each other
pub data Told (h k : ℕ) : Type 0 where
  -- an instruction of the list, which no row calls good Armv6-M outside it
  ours : (i : Instr) → decode_of h k ≡ Some i → defined h k ≡ false → Told h k
  -- 22
  undefined : decode_of h k ≡ None → classify_of h k ≡ None → Told h k
  -- 26 with this class, which is none of the four that are taken whole
  unsupported : (class : ℕ) → decode_of h k ≡ None → classify_of h k ≡ Some class → 1 ≤ class → class ≤ 13 → listed met class ≡ true → Told h k
