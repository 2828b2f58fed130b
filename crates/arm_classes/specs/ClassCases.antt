-- Halfwords of every class that can be met, and of every way to be undefined or unpredictable, worked out. Rests on Classes.
use Rattle.std.specs.Prelude.{◌≡◌, refl, List, [], ◌∷◌, ℕ, Option, Some, None}
use Rattle.arm_word.specs.Ranges.{look}
use Rattle.arm_classes.specs.Classes.{lines, rows, pair_defined, classify_of}

-- the class, or 0
abbrev number : Option ℕ → ℕ
number None = 0
number (Some class) = class

unfoldable pub firsts : List ℕ → List ℕ
firsts [] = []
firsts (h ∷ more) = number (classify_of h 0) ∷ firsts more

-- second halves behind the first half h
unfoldable pub seconds : ℕ → List ℕ → List ℕ
seconds h [] = []
seconds h (k ∷ more) = number (classify_of h k) ∷ seconds h more

-- ADDS, CMP; ASRS, CMP; ADD, BX; STRH, STRB; SXTH, PUSH, CPSIE, an unallocated hint; STM; LDM; B
pub worked :
    firsts (0x1C00 ∷ 0x2800 ∷ 0x4100 ∷ 0x4280 ∷ 0x4400 ∷ 0x4770 ∷ 0x5200 ∷ 0x7000 ∷ 0xB200 ∷ 0xB401 ∷ 0xB662 ∷ 0xBF50 ∷ 0xC001 ∷ 0xC801 ∷ 0xD200 ∷ [])
    ≡ 1 ∷ 1 ∷ 2 ∷ 2 ∷ 3 ∷ 3 ∷ 5 ∷ 5 ∷ 8 ∷ 8 ∷ 8 ∷ 8 ∷ 9 ∷ 10 ∷ 11 ∷ []
unfolding firsts classify_of look lines rows
worked = refl

-- ADD pc,pc; CMP of low registers, with pc, of pc; BX with a low bit; BLX pc; CBZ; PUSH of nothing; CPS with other bits; IT; STM and LDM of nothing; UDF; the two halves that are always undefined
pub worked_undefined :
    firsts (0x44FF ∷ 0x4500 ∷ 0x4578 ∷ 0x4587 ∷ 0x4701 ∷ 0x47F8 ∷ 0xB100 ∷ 0xB400 ∷ 0xB660 ∷ 0xBF01 ∷ 0xC000 ∷ 0xC800 ∷ 0xDE00 ∷ 0xE800 ∷ 0xF800 ∷ [])
    ≡ 0 ∷ 0 ∷ 0 ∷ 0 ∷ 0 ∷ 0 ∷ 0 ∷ 0 ∷ 0 ∷ 0 ∷ 0 ∷ 0 ∷ 0 ∷ 0 ∷ 0 ∷ []
unfolding firsts classify_of look lines rows
worked_undefined = refl

-- MRS from APSR, into sp, from register 4; DSB, and what stands behind ISB; BL with J1 = 0, with J1 = 1 and J2 = 0; B.W
pub worked_pairs : (seconds 0xF3EF (0x8000 ∷ 0x8D00 ∷ 0x8004 ∷ []) ≡ 13 ∷ 0 ∷ 0 ∷ []) × (seconds 0xF3BF (0x8F4F ∷ 0x8F70 ∷ []) ≡ 13 ∷ 0 ∷ [])
    × (seconds 0xF000 (0xD000 ∷ 0xF000 ∷ 0x9000 ∷ []) ≡ 13 ∷ 13 ∷ 0 ∷ [])
unfolding seconds classify_of look lines rows pair_defined
worked_pairs = (refl, refl, refl)
