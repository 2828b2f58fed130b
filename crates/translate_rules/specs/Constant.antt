-- How a constant comes into a register. Definitions.
use Rattle.std.specs.Prelude.{ℕ, ◌+◌, ◌/◌, ◌%◌, ◌^◌, Bool, List, [], ◌∷◌, ltb, leb}
use Rattle.std.specs.Int.Count.{count_trailing_zeros, count_leading_zeros}
use Rattle.arm_word.specs.Choice.{pick}
use Rattle.arm_encoding.specs.declared.Instr.{Instr}
use Rattle.arm_encoding.specs.declared.Instr.TheVariants.{Movi, Shli, Addi}

-- The image: "A constant 1 to 255 or 0 is one MOVI"
abbrev pub byte_constant : ℕ → ℕ → List Instr
byte_constant d w = Movi d w ∷ []

-- "a MOVI and one SHLI by the count of zero bits below the lowest set one"
abbrev pub span_constant : ℕ → ℕ → List Instr
span_constant d w = Movi d (w / 2 ^ count_trailing_zeros 32 w) ∷ Shli (count_trailing_zeros 32 w) d d ∷ []

-- any other: its four bytes, the highest first
abbrev pub long_constant : ℕ → ℕ → List Instr
long_constant d w =
    Movi d (w / 16777216)
    ∷ Shli 8 d d
    ∷ Addi d (w / 65536 % 256)
    ∷ Shli 8 d d
    ∷ Addi d (w / 256 % 256)
    ∷ Shli 8 d d
    ∷ Addi d (w % 256)
    ∷ []

-- "another constant whose set bits span at most eight neighbouring places": at least 24 of the 32 places lie below its lowest set bit or above its highest
abbrev pub spans_byte : ℕ → Bool
spans_byte w = leb 24 (count_leading_zeros 32 w + count_trailing_zeros 32 w)

-- register d takes the word w
unfoldable pub load_constant : ℕ → ℕ → List Instr
load_constant d w = pick (ltb w 256) (byte_constant d w) (pick (spans_byte w) (span_constant d w) (long_constant d w))
