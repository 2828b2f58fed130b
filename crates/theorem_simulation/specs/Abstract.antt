-- The abstract machine of the simulation. It runs the same instructions; it has the needed words only, and a word may be unknown. Definitions.
-- It has no loads from code, no statuses: whatever it can't do, as reading an unknown word, is `none`. Bridge leads from it to the machine.
use Rattle.std.specs.Prelude.{Bool, true, false, not, List, [], ◌∷◌, ◌++◌, ℕ, ◌+◌, ◌*◌, ◌-◌, ◌/◌, ◌%◌, length, get_or, set, ltb, leb, eqb}
use Rattle.std.proofs.Math.Option.{Option, none, some}
use Rattle.std.specs.Int.Bits.{bit_and, bit_or, bit_xor}
use Rattle.arm_word.specs.Choice.{pick}
use Rattle.arm_word.specs.Word.{add, sub, mul, complement, shift_left, shift_right}
use Rattle.arm_word.specs.Carry.{sum_word}
use Rattle.arm_word.specs.Access.{Access, loaded, stored}
use Rattle.arm_encoding.specs.declared.Instr.{Instr}
use Rattle.arm_encoding.specs.declared.Instr.TheVariants.{Shli, Shri, Ashri, Addr, Subr, Movi, Addi, Subi, Ldrpci, Strspi, Ldrspi, Addpci, Addspi, Andr, Xorr, Shl, Shr, Negr, Orr, Mul}
use Rattle.arm_encoding.specs.declared.Instr.TheVariants.{Mvnr, Str, Ldr}
use Rattle.arm_encoding.specs.declared.Instr.TheVariants.{Stri, Ldri, Incsp, Decsp, Svc, Beq, Bne, Bge, Blt, Bu, Bl}
use Rattle.arm_state.specs.State.{base}

-- the registers that images use: r0 to r3, and r7, which keeps the data's base
abbrev pub registers : ℕ → ℕ → ℕ → ℕ → List ℕ
registers a b c d = a ∷ b ∷ c ∷ d ∷ 0 ∷ 0 ∷ 0 ∷ base ∷ []

abbrev pub get : List ℕ → ℕ → ℕ
get r d = get_or r d 0

-- what branches and a return go by: the last result, and lr
pub record Control : Type 0 where
  pub tested : ℕ
  pub link : ℕ

-- another result, or another lr
abbrev pub tests : ℕ → Control → Control
tests v ct = record { tested = v; link = ct.link }

abbrev pub links : ℕ → Control → Control
links a ct = record { tested = ct.tested; link = a }

-- pc, registers, sp, control, the needed words, the trace
pub data Abstract : Type 0 where
  machine : ℕ → List ℕ → ℕ → Control → List (Option ℕ) → List Access → Abstract

abbrev pub pc_of : Abstract → ℕ
pc_of (machine pc r sp ct m l) = pc

abbrev pub sp_of : Abstract → ℕ
sp_of (machine pc r sp ct m l) = sp

abbrev pub memory_of : Abstract → List (Option ℕ)
memory_of (machine pc r sp ct m l) = m

abbrev pub trace_of : Abstract → List Access
trace_of (machine pc r sp ct m l) = l

-- the word at an address, n words being there
unfoldable pub word_at : ℕ → ℕ → Option ℕ
word_at n a =
    pick (eqb (a % 4) 0) (pick (leb base a) (pick (ltb ((a - base) / 4) n) (some ((a - base) / 4)) none) none) none

abbrev pub with_word : Option ℕ → (ℕ → Option Abstract) → Option Abstract
with_word none f = none
with_word (some v) f = f v

-- the old word of a store, which only a listed one has to know
abbrev pub old_word : Bool → Option ℕ → (ℕ → Option Abstract) → Option Abstract
old_word true u f = with_word u f
old_word false u f = f 0

abbrev pub note : Bool → List Access → Access → List Access
note true l a = l ++ a ∷ []
note false l a = l

-- a register takes a result, and branches go by it
abbrev pub results : ℕ → ℕ → Abstract → Option Abstract
results d v (machine pc r sp ct m l) = some (machine (pc + 2) (set r d v) sp (tests v ct) m l)

-- what SUBR, SUBI and NEGR give: the sum with the complement and a carry in
abbrev pub difference : ℕ → ℕ → ℕ
difference x y = sum_word x (complement y) true

-- `array k`: data word k is an array's
abbrev pub loads : (ℕ → Bool) → ℕ → ℕ → Abstract → Option Abstract
loads array d a (machine pc r sp ct m l) =
    with_word (word_at (length m) a)
    (λ k. with_word (get_or m k none) (λ v. some (machine (pc + 2) (set r d v) sp ct m (note (array k) l (loaded k v)))))

abbrev pub stores : (ℕ → Bool) → ℕ → ℕ → Abstract → Option Abstract
stores array x a (machine pc r sp ct m l) =
    with_word (word_at (length m) a)
    (λ k. old_word (array k) (get_or m k none) (λ v. some (machine (pc + 2) r sp ct (set m k (some x)) (note (array k) l (stored k v x)))))

abbrev pub moves_sp : ℕ → Abstract → Option Abstract
moves_sp sp' (machine pc r sp ct m l) = some (machine (pc + 2) r sp' ct m l)

-- The machine: "Distances in halfwords from address + 4"
abbrev pub target : ℕ → ℕ → ℕ
target pc k = add (add pc 4) (add k k)

abbrev pub branches : Bool → ℕ → Abstract → Option Abstract
branches b k (machine pc r sp ct m l) = some (machine (pick b (target pc k) (pc + 2)) r sp ct m l)

-- BL: "lr = address + 5"
abbrev pub calls : ℕ → Abstract → Option Abstract
calls k (machine pc r sp ct m l) = some (machine (target pc k) r sp (links (add pc 5) ct) m l)

-- one clause an instruction; those that images don't have are not done
abbrev pub performs : (ℕ → Bool) → Instr → Abstract → Option Abstract
performs array (Shli n l d) (machine pc r sp ct m t) = results d (shift_left (get r l) n) (machine pc r sp ct m t)
performs array (Shri n l d) (machine pc r sp ct m t) = results d (shift_right (get r l) n) (machine pc r sp ct m t)
performs array (Ashri n l d) (machine pc r sp ct m t) = none
performs array (Addr i l d) (machine pc r sp ct m t) = results d (add (get r l) (get r i)) (machine pc r sp ct m t)
performs array (Subr i l d) (machine pc r sp ct m t) = results d (difference (get r l) (get r i)) (machine pc r sp ct m t)
performs array (Movi d u) (machine pc r sp ct m t) = results d u (machine pc r sp ct m t)
performs array (Addi d u) (machine pc r sp ct m t) = results d (add (get r d) u) (machine pc r sp ct m t)
performs array (Subi d u) (machine pc r sp ct m t) = results d (difference (get r d) u) (machine pc r sp ct m t)
performs array (Ldrpci d u) (machine pc r sp ct m t) = none
performs array (Strspi d u) (machine pc r sp ct m t) = stores array (get r d) (add sp (4 * u)) (machine pc r sp ct m t)
performs array (Ldrspi d u) (machine pc r sp ct m t) = loads array d (add sp (4 * u)) (machine pc r sp ct m t)
performs array (Addpci d u) (machine pc r sp ct m t) = none
performs array (Addspi d u) (machine pc r sp ct m t) = none
performs array (Andr i d) (machine pc r sp ct m t) = results d (bit_and (get r d) (get r i)) (machine pc r sp ct m t)
performs array (Xorr i d) (machine pc r sp ct m t) = results d (bit_xor (get r d) (get r i)) (machine pc r sp ct m t)
performs array (Shl i d) (machine pc r sp ct m t) = results d (shift_left (get r d) (get r i % 256)) (machine pc r sp ct m t)
performs array (Shr i d) (machine pc r sp ct m t) = results d (shift_right (get r d) (get r i % 256)) (machine pc r sp ct m t)
performs array (Negr i d) (machine pc r sp ct m t) = results d (difference 0 (get r i)) (machine pc r sp ct m t)
performs array (Orr i d) (machine pc r sp ct m t) = results d (bit_or (get r d) (get r i)) (machine pc r sp ct m t)
performs array (Mul i d) (machine pc r sp ct m t) = results d (mul (get r d) (get r i)) (machine pc r sp ct m t)
performs array (Mvnr i d) (machine pc r sp ct m t) = results d (complement (get r i)) (machine pc r sp ct m t)
performs array (Str i b d) (machine pc r sp ct m t) = stores array (get r d) (add (get r b) (get r i)) (machine pc r sp ct m t)
performs array (Ldr i b d) (machine pc r sp ct m t) = loads array d (add (get r b) (get r i)) (machine pc r sp ct m t)
performs array (Stri u b d) (machine pc r sp ct m t) = none
performs array (Ldri u b d) (machine pc r sp ct m t) = none
performs array (Incsp u) (machine pc r sp ct m t) = moves_sp (add sp (4 * u)) (machine pc r sp ct m t)
performs array (Decsp u) (machine pc r sp ct m t) = moves_sp (sub sp (4 * u)) (machine pc r sp ct m t)
performs array (Svc u) (machine pc r sp ct m t) = none
performs array (Beq k) (machine pc r sp ct m t) = branches (eqb ct.tested 0) k (machine pc r sp ct m t)
performs array (Bne k) (machine pc r sp ct m t) = branches (not (eqb ct.tested 0)) k (machine pc r sp ct m t)
performs array (Bge k) (machine pc r sp ct m t) = none
performs array (Blt k) (machine pc r sp ct m t) = none
performs array (Bu k) (machine pc r sp ct m t) = none
performs array (Bl k) (machine pc r sp ct m t) = calls k (machine pc r sp ct m t)

-- bytes of an instruction: BL has two halfwords
abbrev pub width : Instr → ℕ
width (Shli n l d) = 2
width (Shri n l d) = 2
width (Ashri n l d) = 2
width (Addr r l d) = 2
width (Subr r l d) = 2
width (Movi d u) = 2
width (Addi d u) = 2
width (Subi d u) = 2
width (Ldrpci d u) = 2
width (Strspi d u) = 2
width (Ldrspi d u) = 2
width (Addpci d u) = 2
width (Addspi d u) = 2
width (Andr r d) = 2
width (Xorr r d) = 2
width (Shl r d) = 2
width (Shr r d) = 2
width (Negr r d) = 2
width (Orr r d) = 2
width (Mul r d) = 2
width (Mvnr r d) = 2
width (Str i b d) = 2
width (Ldr i b d) = 2
width (Stri u b d) = 2
width (Ldri u b d) = 2
width (Incsp u) = 2
width (Decsp u) = 2
width (Svc u) = 2
width (Beq k) = 2
width (Bne k) = 2
width (Bge k) = 2
width (Blt k) = 2
width (Bu k) = 2
width (Bl k) = 4
