-- Halfwords that are no instruction of document 01's list: what Armv6-M leaves undefined or unpredictable, and the class of what it defines. Definitions.
-- Request 2026-05. docs/CLASSES.md has every instruction by itself; here neighbours of one answer are one row, and the list's own halfwords, which arm_encoding's table has, are left out.
use Rattle.std.specs.Prelude.{ℕ, ◌/◌, ◌%◌, Bool, true, false, not, ◌&&◌, ◌||◌, List, [], ◌∷◌, Option, Some, None, eqb}
use Rattle.arm_word.specs.Choice.{pick}
use Rattle.arm_word.specs.Ranges.{from_to, Range, range, look}

-- ── "the class as a number: the lines of the manual's 16-bit encoding table from 1, the next for all 32-bit ones" ──

-- the lines of the manual's table A5-1, by bits 15 to 10
unfoldable pub lines : List (Range ℕ)
lines =
    -- 00xxxx: shift (immediate), add, subtract, move, and compare
    range 0x0000 0x3FFF 1
    -- 010000: data processing
    ∷ range 0x4000 0x43FF 2
    -- 010001: special data instructions, and branch and exchange
    ∷ range 0x4400 0x47FF 3
    -- 01001x: load from the literal pool
    ∷ range 0x4800 0x4FFF 4
    -- 0101xx, 011xxx, 100xxx: load or store of a single data item
    ∷ range 0x5000 0x9FFF 5
    -- 10100x: PC-relative address
    ∷ range 0xA000 0xA7FF 6
    -- 10101x: SP-relative address
    ∷ range 0xA800 0xAFFF 7
    -- 1011xx: miscellaneous 16-bit instructions
    ∷ range 0xB000 0xBFFF 8
    -- 11000x: store of several registers
    ∷ range 0xC000 0xC7FF 9
    -- 11001x: load of several registers
    ∷ range 0xC800 0xCFFF 10
    -- 1101xx: conditional branch, and supervisor call
    ∷ range 0xD000 0xDFFF 11
    -- 11100x: unconditional branch
    ∷ range 0xE000 0xE7FF 12
    ∷ []

abbrev pub class_of : ℕ → ℕ
class_of h = look 13 lines h

-- ── "22 for what Armv6-M itself leaves undefined (UDF too) or unpredictable" ──

-- how much of a range of first halfwords Armv6-M defines; the others are undefined or unpredictable
pub data Part : Type 0 where
  none : Part
  all : Part
  -- only m r: those that leave the remainder r by m, so whose low bits, three by 8, four by 16, eight by 256, are r
  only : ℕ → ℕ → Part
  -- but m r: those that don't
  but : ℕ → ℕ → Part
  -- the second half decides
  paired : Part

-- the first halfwords outside the list
unfoldable pub rows : List (Range Part)
rows =
    -- ADDS and SUBS with an immediate of 3 bits
    range 0x1C00 0x1FFF all
    -- CMP with an immediate
    ∷ range 0x2800 0x2FFF all
    -- ASRS, ADCS, SBCS, RORS, TST
    ∷ range 0x4100 0x423F all
    -- CMP, CMN
    ∷ range 0x4280 0x42FF all
    -- BICS
    ∷ range 0x4380 0x43BF all
    -- ADD of any registers, but not pc and pc
    ∷ range 0x4400 0x44FE all
    ∷ range 0x44FF 0x44FF none
    -- CMP: not two of r0 to r7, and pc on neither side
    ∷ range 0x4500 0x453F none
    ∷ range 0x4540 0x4577 all
    ∷ range 0x4578 0x457F none
    ∷ range 0x4580 0x45F7 (but 8 7)
    ∷ range 0x45F8 0x45FF none
    -- MOV of any registers
    ∷ range 0x4600 0x46FF all
    -- BX: the low bits should be 0, and not pc
    ∷ range 0x4700 0x4777 (only 8 0)
    ∷ range 0x4778 0x477F none
    -- BLX likewise
    ∷ range 0x4780 0x47F7 (only 8 0)
    ∷ range 0x47F8 0x47FF none
    -- STRH, STRB, LDRSB by a register
    ∷ range 0x5200 0x57FF all
    -- LDRH, LDRB, LDRSH by a register
    ∷ range 0x5A00 0x5FFF all
    -- STRB, LDRB, STRH, LDRH with an immediate
    ∷ range 0x7000 0x8FFF all
    -- CBZ of Armv7-M
    ∷ range 0xB100 0xB1FF none
    -- SXTH, SXTB, UXTH, UXTB
    ∷ range 0xB200 0xB2FF all
    -- CBZ again
    ∷ range 0xB300 0xB3FF none
    -- PUSH, of something
    ∷ range 0xB400 0xB400 none
    ∷ range 0xB401 0xB5FF all
    -- SETEND and SETPAN of others
    ∷ range 0xB600 0xB65F none
    -- CPSIE i, CPSID i
    ∷ range 0xB660 0xB67F (only 16 2)
    -- CBNZ of Armv7-M is among these
    ∷ range 0xB680 0xB9FF none
    -- REV, REV16
    ∷ range 0xBA00 0xBA7F all
    -- HLT of Armv8-A
    ∷ range 0xBA80 0xBABF none
    -- REVSH
    ∷ range 0xBAC0 0xBAFF all
    -- CBNZ again
    ∷ range 0xBB00 0xBBFF none
    -- POP, of something, and BKPT
    ∷ range 0xBC00 0xBC00 none
    ∷ range 0xBC01 0xBEFF all
    -- hints, those that are not allocated too; the others are IT of Armv7-M
    ∷ range 0xBF00 0xBFFF (only 16 0)
    -- STM, of something
    ∷ range 0xC000 0xC7FF (but 256 0)
    -- LDM, of something
    ∷ range 0xC800 0xCFFF (but 256 0)
    -- B with the conditions cs, cc, mi, pl, vs, vc, hi, ls
    ∷ range 0xD200 0xD9FF all
    -- B with the conditions gt, le
    ∷ range 0xDC00 0xDDFF all
    -- UDF
    ∷ range 0xDE00 0xDEFF none
    -- 32-bit instructions: undefined by the first half, by both, by the first
    ∷ range 0xE800 0xEFFF none
    ∷ range 0xF000 0xF7FF paired
    ∷ range 0xF800 0xFFFF none
    ∷ []

-- ── 32-bit instructions ──

-- the registers that MRS and MSR move: not sp, not pc
abbrev pub general : ℕ → Bool
general r = not (eqb r 13) && not (eqb r 15)

-- those that they move from and to: APSR and its kin, MSP and PSP, PRIMASK, CONTROL
abbrev pub special : ℕ → Bool
special m = from_to 0 3 m || from_to 5 9 m || eqb m 16 || eqb m 20

abbrev pub MRS : ℕ → ℕ → Bool
MRS h k = eqb h 0xF3EF && from_to 0x8000 0x8FFF k && general (k / 256 % 16) && special (k % 256)

abbrev pub MSR : ℕ → ℕ → Bool
MSR h k = from_to 0xF380 0xF38F h && from_to 0x8800 0x88FF k && general (h % 16) && special (k % 256)

-- DSB, DMB, ISB, with any option
abbrev pub barrier : ℕ → ℕ → Bool
barrier h k = eqb h 0xF3BF && from_to 0x8F40 0x8F6F k

-- BL with J1 = 0, and with J1 = 1 and J2 = 0; with J1 = J2 = 1 it is the list's
abbrev pub far_call : ℕ → Bool
far_call k = from_to 0xD000 0xDFFF k || from_to 0xF000 0xF7FF k

-- a first half from F000 to F7FF and its second half
unfoldable pub pair_defined : ℕ → ℕ → Bool
pair_defined h k = MRS h k || MSR h k || barrier h k || far_call k

-- ── "26, tested with it, for all else that we don't take" ──

abbrev pub defines : Part → ℕ → ℕ → Bool
defines none h k = false
defines all h k = true
defines (only m r) h k = eqb (h % m) r
defines (but m r) h k = not (eqb (h % m) r)
defines paired h k = pair_defined h k

-- Armv6-M defines them, and they are not the list's: those of the list stand in no row
abbrev pub defined : ℕ → ℕ → Bool
defined h k = defines (look none rows h) h k

-- the class of halfwords that decode to no instruction of the list and that Armv6-M defines; none where it leaves them undefined or unpredictable
unfoldable pub classify_of : ℕ → ℕ → Option ℕ
classify_of h k = pick (defined h k) (Some (class_of h)) None
