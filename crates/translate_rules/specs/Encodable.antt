-- When every instruction of a code can be encoded. A definition.
use Rattle.std.specs.Prelude.{◌≡◌, List, [], ◌∷◌}
use Rattle.arm_encoding.specs.Encoding.{encode_of}
use Rattle.arm_encoding.specs.declared.Instr.{Instr}

-- no instruction of these is refused
abbrev pub Encodable : List Instr → Type 0
Encodable [] = Unit {0}
Encodable (i ∷ is) = ((encode_of i).status ≡ 0) × Encodable is
