-- The bytes of instructions. Definitions; they rest on the encoding.
use Rattle.std.specs.Prelude.{ℕ, List, [], ◌∷◌, ◌++◌, length}
use Rattle.arm_encoding.specs.Encoding.{encode_of}
use Rattle.arm_encoding.specs.EncodingBytes.{encoded_bytes}
use Rattle.arm_encoding.specs.declared.Instr.{Instr}

-- an instruction's bytes: as many halfwords as its encoding counts; a refused one has none
unfoldable pub bytes_of : Instr → List ℕ
bytes_of i = encoded_bytes (encode_of i)

unfoldable pub bytes : List Instr → List ℕ
bytes [] = []
bytes (i ∷ is) = bytes_of i ++ bytes is

-- how many bytes they take
unfoldable pub size : List Instr → ℕ
size is = length (bytes is)
