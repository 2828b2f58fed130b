-- An instruction as a line of text: address, one or two halfwords, mnemonic and operands. Definitions; rests on the mnemonics and the encoding.
-- Assumes nothing.
use Rattle.std.specs.Prelude.{ℕ, List, [], ◌++◌, ltb, Option, Some, None}
use Rattle.arm_encoding.specs.declared.Instr.{Instr}
use Rattle.arm_word.specs.Choice.{pick}
use Rattle.arm_word.specs.Ascii.{ascii}
use Rattle.text_lines.specs.Text.{hexadecimal}
use Rattle.arm_encoding.specs.Encoding.{decode_of}
use Rattle.text_mnemonic.specs.Mnemonic.{instruction}

-- `0004 F000`
abbrev pub located : ℕ → ℕ → List ℕ
located at first = hexadecimal at ++ (ascii " " ++ hexadecimal first)

-- The machine: "both halves for F000 to F7FF"
unfoldable pub second : ℕ → ℕ → List ℕ
second first h = pick (ltb first 0xF000) [] (ascii " " ++ hexadecimal h)

-- what stands after the first halfword
abbrev pub after : ℕ → ℕ → ℕ → Option Instr → List ℕ
after at first h None = []
after at first h (Some i) = second first h ++ (ascii " " ++ instruction at i)

-- the line of the instruction at an address, by the two halfwords there
unfoldable pub line : ℕ → ℕ → ℕ → List ℕ
line at first h = located at first ++ (after at first h (decode_of first h) ++ ascii "\n")

-- the bytes of what the line shows
abbrev pub bytes : ℕ → Option Instr → ℕ
bytes first None = 2
bytes first (Some i) = pick (ltb first 0xF000) 2 4

unfoldable pub size : ℕ → ℕ → ℕ
size first h = bytes first (decode_of first h)
