-- The bytes of an encoding, as code holds them. Definitions.
use Rattle.std.specs.Prelude.{List, [], ◌∷◌, ◌++◌, ℕ, ◌/◌, ◌%◌, eqb}
use Rattle.arm_word.specs.Choice.{pick}
use Rattle.arm_encoding.specs.Encoding.{Encoded}

-- The machine: "Halfwords and words are little-endian"
abbrev pub halfword_bytes : ℕ → List ℕ
halfword_bytes h = h % 256 ∷ h / 256 ∷ []

-- none, one or two halfwords
unfoldable pub encoded_bytes : Encoded → List ℕ
encoded_bytes e =
    pick (eqb e.count 0) []
    (pick (eqb e.count 1) (halfword_bytes e.first) (halfword_bytes e.first ++ halfword_bytes e.second))
