-- Lines fit, give back address and halfwords, and stand for two or four bytes. Laws; rests on Disassembly.
-- Assumes nothing.
use Rattle.std.specs.Prelude.{◌≡◌, [], ◌++◌, ℕ, ◌≤◌, ◌<◌, ltb, length, take, drop, Option, Some, None}
use Rattle.std.proofs.Common.{arith, le-ltb, length-append, take_all}
use Rattle.arm_word.specs.Choice.{pick}
use Rattle.arm_word.specs.ChoiceLaws.{by_test}
use Rattle.arm_word.specs.Ascii.{ascii}
use Rattle.text_lines.specs.Text.{fitted, hexadecimal}
use Rattle.text_lines.specs.Back.{number, hexadecimal_back}
use Rattle.arm_encoding.specs.declared.Instr.{Instr}
use Rattle.arm_encoding.specs.Encoding.{decode_of}
use Rattle.text_mnemonic.specs.MnemonicLaws.{length_instruction}
use Rattle.text_disassembly.specs.Disassembly.{second, after, line, bytes, size}

-- ── a line fits ──

length_second : (first h : ℕ) → length (second first h) ≤ 5
unfolding second
length_second first h = by_test (λ t. length (pick t [] (ascii " " ++ hexadecimal h)) ≤ 5) (ltb first 0xF000) (λ _. omega arith) (λ _. omega arith)

length_after : (at first h : ℕ) (d : Option Instr) → length (after at first h d) ≤ 48
length_after at first h None = omega arith
length_after at first h (Some i) = simp length-append (omega (arith, length_second first h, length_instruction at i))

-- address, halfwords, mnemonic and operands take at most 58 bytes
pub line_short : (at first h : ℕ) → length (line at first h) ≤ 58
unfolding line
line_short at first h = simp length-append (omega (arith, length_after at first h (decode_of first h)))

pub line_fits : (at first h : ℕ) → fitted (line at first h) ≡ line at first h
line_fits at first h = take_all 128 (line at first h) (omega (arith, line_short at first h))

-- ── what is read back ──

pub first_back : (at first h : ℕ) → first < 65536 → number 16 0 (take 4 (drop 5 (line at first h))) ≡ first
unfolding line
first_back at first h = hexadecimal_back first

pub second_back : (at first h : ℕ) (i : Instr) → decode_of first h ≡ Some i → 0xF000 ≤ first → h < 65536 → number 16 0 (take 4 (drop 10 (line at first h))) ≡ h
unfolding line second
second_back at first h i e high small = rw (e, le-ltb first 0xF000 high) (hexadecimal_back h small)

-- ── the bytes of a line ──

-- two or four
pub by_size : (P : ℕ → Type 0) (first h : ℕ) → P 2 → P 4 → P (size first h)
unfolding size
by_size P first h two four = go (decode_of first h)
  where
    go : (d : Option Instr) → P (bytes first d)
    go None = two
    go (Some i) = by_test (λ t. P (pick t 2 4)) (ltb first 0xF000) (λ _. two) (λ _. four)

pub size_bounds : (first h : ℕ) → (2 ≤ size first h) × (size first h ≤ 4)
size_bounds first h = by_size (λ n. (2 ≤ n) × (n ≤ 4)) first h (omega arith) (omega arith)
