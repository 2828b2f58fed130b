-- The machine's state, and the ways in which an instruction changes it. Definitions.
use Rattle.std.specs.Prelude.{ℕ, ◌+◌, ◌-◌, ◌*◌, ◌%◌, Bool, true, false, [], ◌∷◌, get_or, set, leb, eqb}
use Rattle.arm_word.specs.Choice.{pick}
use Rattle.arm_word.specs.Word.{sign, add, complement, shift_left, shift_right, shift_right_signed}
use Rattle.arm_word.specs.Carry.{differ, with_carry, last_left, last_right}
use Rattle.arm_word.specs.declared.Sum.{Sum}
use Rattle.arm_state.specs.declared.Flags.{Flags}
use Rattle.arm_state.specs.declared.Machine.{Machine}

-- The machine: "data is lent words at 0x20000000 up"
abbrev pub base : ℕ
base = 0x20000000

-- Limits and refusals: "Needed words: D + 2N + 8"
abbrev pub needed : ℕ → ℕ → ℕ
needed d n = d + 2 * n + 8

-- Request 2026-02: "N, Z, C and V of the Armv6-M manual"; "All four are 0 at start"
abbrev pub no_flags : Flags
no_flags = record { n = false; z = false; c = false; v = false }

-- "Start: pc, r0 to r6, lr ... 0; r7 = 0x20000000; sp = r7 + 4 x needed words"
unfoldable pub fresh_of : ℕ → ℕ → Machine
fresh_of d n = record { regs = 0 ∷ 0 ∷ 0 ∷ 0 ∷ 0 ∷ 0 ∷ 0 ∷ base ∷ []; sp = add base (4 * needed d n); lr = 0; pc = 0; flags = no_flags }

-- "A refused start gives an all-zero state"
abbrev pub zeros : Machine
zeros = record { regs = 0 ∷ 0 ∷ 0 ∷ 0 ∷ 0 ∷ 0 ∷ 0 ∷ 0 ∷ []; sp = 0; lr = 0; pc = 0; flags = no_flags }

abbrev pub reg : Machine → ℕ → ℕ
reg m r = get_or m.regs r 0

-- the next instruction, of one halfword
unfoldable pub next : Machine → Machine
next m = record { regs = m.regs; sp = m.sp; lr = m.lr; pc = add m.pc 2; flags = m.flags }

-- a register takes a word, and the flags stay: loads, and "address sums" set none
unfoldable pub takes : Machine → ℕ → ℕ → Machine
takes m d v = record { regs = set m.regs d v; sp = m.sp; lr = m.lr; pc = add m.pc 2; flags = m.flags }

-- ── request 2026-02: a register takes a result, and the flags tell of it ──

unfoldable pub result : Machine → ℕ → ℕ → Flags → Machine
result m d v f = record { regs = set m.regs d v; sp = m.sp; lr = m.lr; pc = add m.pc 2; flags = f }

-- N: the result is negative, read signed; Z: it is 0; C and V as they are given
abbrev pub flags_of : ℕ → Bool → Bool → Flags
flags_of r c v = record { n = leb sign r; z = eqb r 0; c = c; v = v }

-- "MOVI, logic and MUL set N and Z"
abbrev pub sets : Machine → ℕ → ℕ → Machine
sets m d r = result m d r (flags_of r m.flags.c m.flags.v)

-- "ADDR, ADDI, SUBR, SUBI and NEGR set all four": the manual's AddWithCarry, of a difference with the complement and a carry in
abbrev pub summed : Machine → ℕ → Sum → Machine
summed m d s = result m d s.word (flags_of s.word s.carry s.overflow)

abbrev pub adds : Machine → ℕ → ℕ → ℕ → Machine
adds m d x y = summed m d (with_carry x y false)

abbrev pub subtracts : Machine → ℕ → ℕ → ℕ → Machine
subtracts m d x y = summed m d (with_carry x (complement y) true)

-- "shifts set N, Z and C, a shift by nothing leaves C": n places, and the last bit out
abbrev pub shifted : Machine → ℕ → ℕ → ℕ → Bool → Machine
shifted m d r n last = result m d r (flags_of r (pick (eqb n 0) m.flags.c last) m.flags.v)

abbrev pub shifts_left : Machine → ℕ → ℕ → ℕ → Machine
shifts_left m d x n = shifted m d (shift_left x n) n (last_left x n)

abbrev pub shifts_right : Machine → ℕ → ℕ → ℕ → Machine
shifts_right m d x n = shifted m d (shift_right x n) n (last_right x n)

abbrev pub shifts_right_signed : Machine → ℕ → ℕ → ℕ → Machine
shifts_right_signed m d x n = shifted m d (shift_right_signed x n) n (last_right x n)

-- "BLT jumps if N and V differ, BGE if they are equal"
abbrev pub less : Machine → Bool
less m = differ m.flags.n m.flags.v

-- sp moves
unfoldable pub moves : Machine → ℕ → Machine
moves m sp = record { regs = m.regs; sp = sp; lr = m.lr; pc = add m.pc 2; flags = m.flags }

-- "Distances in halfwords from address + 4"
unfoldable pub jump : Machine → ℕ → Machine
jump m k = record { regs = m.regs; sp = m.sp; lr = m.lr; pc = add (add m.pc 4) (add k k); flags = m.flags }

unfoldable pub branch : Machine → Bool → ℕ → Machine
branch m b k = pick b (jump m k) (next m)

-- "lr = address + 5"
unfoldable pub link : Machine → ℕ → Machine
link m k = record { regs = m.regs; sp = m.sp; lr = add m.pc 5; pc = add (add m.pc 4) (add k k); flags = m.flags }

-- "(address + 4) rounded down to 4"
abbrev pub here : Machine → ℕ
here m = add m.pc 4 - add m.pc 4 % 4
