-- What an instruction does: the state after it, the words of data, and the data access that it made. Definitions.
use Rattle.std.specs.Prelude.{ℕ, ◌+◌, ◌-◌, ◌*◌, ◌/◌, ◌%◌, not, List, [], ◌∷◌, length, get_or, set, ltb, leb, eqb, Option, Some, None}
use Rattle.std.specs.Int.Bits.{bit_and, bit_or, bit_xor}
use Rattle.arm_word.specs.Choice.{pick}
use Rattle.arm_word.specs.Word.{add, sub, mul, complement}
use Rattle.arm_word.specs.Access.{Access, loaded, stored}
use Rattle.arm_encoding.specs.declared.Instr.{Instr}
use Rattle.arm_encoding.specs.declared.Instr.TheVariants.{Shli, Shri, Ashri, Addr, Subr, Movi, Addi, Subi, Ldrpci, Strspi, Ldrspi, Addpci, Addspi, Andr, Xorr, Shl, Shr, Negr, Orr, Mul}
use Rattle.arm_encoding.specs.declared.Instr.TheVariants.{Mvnr, Str, Ldr}
use Rattle.arm_encoding.specs.declared.Instr.TheVariants.{Stri, Ldri, Incsp, Decsp, Svc, Beq, Bne, Bge, Blt, Bu, Bl}
use Rattle.arm_state.specs.State.{base, reg, next, takes, sets, adds, subtracts, shifts_left, shifts_right, shifts_right_signed, less, moves, jump, branch, link, here}
use Rattle.arm_state.specs.declared.Machine.{Machine}
use Rattle.arm_state.specs.declared.Stepped.{Stepped}

-- what a call hands back, and the words of data after it
pub record After : Type 0 where
  pub state : Stepped
  pub words : List ℕ

abbrev pub after : Stepped → List ℕ → After
after s w = record { state = s; words = w }

-- and the data word that the instruction loaded or stored, if any: demand 3 lists those inside an array's words
pub record Effect : Type 0 where
  pub after : After
  pub access : List Access

-- an instruction that completed: status 0
abbrev pub done : Machine → Stepped
done m = record { machine = m; status = 0; number = 0 }

-- an SVC, which "keeps pc": status 1 and its number
abbrev pub ended : Machine → ℕ → Stepped
ended m u = record { machine = m; status = 1; number = u }

-- a fault, or a refusal, by document 01's number: the state is the old one
abbrev pub fault : Machine → ℕ → Stepped
fault m f = record { machine = m; status = f; number = 0 }

-- request 2026-05: an instruction that Armv6-M defines and the list doesn't have, 26 "with the class as a number": the state is the old one
abbrev pub unsupported : Machine → ℕ → Stepped
unsupported m class = record { machine = m; status = 26; number = class }

-- completed, with no data access
abbrev pub goes : List ℕ → Machine → Effect
goes w m = record { after = after (done m) w; access = [] }

-- stopped, with nothing changed
abbrev pub stops : List ℕ → Stepped → Effect
stops w s = record { after = after s w; access = [] }

-- ── addresses ──

-- "23 address not a multiple of 4"
abbrev pub aligned_of : ℕ → Option ℕ
aligned_of a = pick (eqb (a % 4) 0) (Some a) None

-- the data word at an address, n words being lent
unfoldable pub slot_of : ℕ → ℕ → Option ℕ
slot_of a n = pick (leb base a) (pick (ltb ((a - base) / 4) n) (Some ((a - base) / 4)) None) None

-- "Halfwords and words are little-endian"
abbrev pub code_word : List ℕ → ℕ → ℕ
code_word c a = get_or c a 0 + 256 * get_or c (a + 1) 0 + 65536 * get_or c (a + 2) 0 + 16777216 * get_or c (a + 3) 0

-- ── loads: "Loads read code or data" ──

-- from data: the word, listed
abbrev pub load_slot : List ℕ → Machine → ℕ → Option ℕ → Effect
load_slot w m d (Some k) = record { after = after (done (takes m d (get_or w k 0))) w; access = loaded k (get_or w k 0) ∷ [] }
load_slot w m d None = stops w (fault m 24)

-- "24 a byte outside memory": the four bytes lie in code, or the word in data
abbrev pub load_at : List ℕ → List ℕ → Machine → ℕ → Option ℕ → Effect
load_at c w m d (Some a) = pick (leb (a + 4) (length c)) (goes w (takes m d (code_word c a))) (load_slot w m d (slot_of a (length w)))
load_at c w m d None = stops w (fault m 23)

unfoldable pub load : List ℕ → List ℕ → Machine → ℕ → ℕ → Effect
load c w m d a = load_at c w m d (aligned_of a)

-- ── stores: "stores only data" ──

abbrev pub store_slot : List ℕ → Machine → ℕ → Option ℕ → Effect
store_slot w m d (Some k) = record { after = after (done (next m)) (set w k (reg m d)); access = stored k (get_or w k 0) (reg m d) ∷ [] }
store_slot w m d None = stops w (fault m 24)

abbrev pub store_at : List ℕ → Machine → ℕ → Option ℕ → Effect
store_at w m d (Some a) = store_slot w m d (slot_of a (length w))
store_at w m d None = stops w (fault m 23)

unfoldable pub store : List ℕ → Machine → ℕ → ℕ → Effect
store w m d a = store_at w m d (aligned_of a)

-- ── one clause an instruction: code c, words w, state m ──

unfoldable pub execute_of : List ℕ → List ℕ → Machine → Instr → Effect
execute_of c w m (Shli n l d) = goes w (shifts_left m d (reg m l) n)
execute_of c w m (Shri n l d) = goes w (shifts_right m d (reg m l) n)
execute_of c w m (Ashri n l d) = goes w (shifts_right_signed m d (reg m l) n)
execute_of c w m (Addr r l d) = goes w (adds m d (reg m l) (reg m r))
execute_of c w m (Subr r l d) = goes w (subtracts m d (reg m l) (reg m r))
execute_of c w m (Movi d u) = goes w (sets m d u)
execute_of c w m (Addi d u) = goes w (adds m d (reg m d) u)
execute_of c w m (Subi d u) = goes w (subtracts m d (reg m d) u)
execute_of c w m (Ldrpci d u) = load c w m d (add (here m) (4 * u))
execute_of c w m (Strspi d u) = store w m d (add m.sp (4 * u))
execute_of c w m (Ldrspi d u) = load c w m d (add m.sp (4 * u))
execute_of c w m (Addpci d u) = goes w (takes m d (add (here m) (4 * u)))
execute_of c w m (Addspi d u) = goes w (takes m d (add m.sp (4 * u)))
execute_of c w m (Andr r d) = goes w (sets m d (bit_and (reg m d) (reg m r)))
execute_of c w m (Xorr r d) = goes w (sets m d (bit_xor (reg m d) (reg m r)))
execute_of c w m (Shl r d) = goes w (shifts_left m d (reg m d) (reg m r % 256))
execute_of c w m (Shr r d) = goes w (shifts_right m d (reg m d) (reg m r % 256))
execute_of c w m (Negr r d) = goes w (subtracts m d 0 (reg m r))
execute_of c w m (Orr r d) = goes w (sets m d (bit_or (reg m d) (reg m r)))
execute_of c w m (Mul r d) = goes w (sets m d (mul (reg m d) (reg m r)))
execute_of c w m (Mvnr r d) = goes w (sets m d (complement (reg m r)))
execute_of c w m (Str i b d) = store w m d (add (reg m b) (reg m i))
execute_of c w m (Ldr i b d) = load c w m d (add (reg m b) (reg m i))
execute_of c w m (Stri u b d) = store w m d (add (reg m b) (4 * u))
execute_of c w m (Ldri u b d) = load c w m d (add (reg m b) (4 * u))
execute_of c w m (Incsp u) = goes w (moves m (add m.sp (4 * u)))
execute_of c w m (Decsp u) = goes w (moves m (sub m.sp (4 * u)))
execute_of c w m (Svc u) = stops w (ended m u)
execute_of c w m (Beq k) = goes w (branch m m.flags.z k)
execute_of c w m (Bne k) = goes w (branch m (not m.flags.z) k)
execute_of c w m (Bge k) = goes w (branch m (not (less m)) k)
execute_of c w m (Blt k) = goes w (branch m (less m) k)
execute_of c w m (Bu k) = goes w (jump m k)
execute_of c w m (Bl k) = goes w (link m k)
