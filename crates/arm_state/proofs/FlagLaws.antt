-- The flags, instruction by instruction: what a comparison's branches go by, the carries at the edges, and which flags stay. Laws; rests on Effects and on arm_word's CarryLaws.
use Rattle.std.specs.Prelude.{◌≡◌, refl, Bool, true, false, not, List, ℕ, ◌+◌, ◌-◌, ◌*◌, ◌/◌, ◌%◌, ◌<◌, length, Option, Some, None}
use Rattle.std.proofs.Math.Path.{ap}
use Rattle.std.proofs.Common.{◌∙◌, arith}
use Rattle.std.proofs.Math.Dec.{leb, eqb}
use borrow.Author.Tests.{eqb-true, eqb-false, eq-eqb, ne_eqb, le-leb, lt-leb}
use Rattle.arm_word.specs.Choice.{pick}
use Rattle.arm_word.specs.ChoiceLaws.{by_test}
use Rattle.arm_word.specs.Word.{sign, sub, signed_less}
use Rattle.arm_word.specs.WordLaws.{shift_left_large, shift_right_large}
use Rattle.arm_word.specs.Carry.{last_left, last_right}
use Rattle.arm_word.specs.CarryLaws.{difference_word, difference_carry, negative_overflow, less_flags, last_left_extended, last_right_extended}
use Rattle.arm_encoding.specs.declared.Instr.{Instr}
use Rattle.arm_encoding.specs.declared.Instr.TheVariants.{Shli, Shri, Ashri, Addr, Subr, Movi, Addi, Subi, Ldrpci, Strspi, Ldrspi, Addpci, Addspi, Andr, Xorr, Shl, Shr, Negr, Orr, Mul}
use Rattle.arm_encoding.specs.declared.Instr.TheVariants.{Mvnr, Str, Ldr}
use Rattle.arm_encoding.specs.declared.Instr.TheVariants.{Stri, Ldri, Incsp, Decsp, Svc, Beq, Bne, Bge, Blt, Bu, Bl}
use Rattle.arm_state.specs.State.{reg, next, takes, result, subtracts, shifts_left, shifts_right, shifts_right_signed, less, moves, jump, branch, link}
use Rattle.arm_state.specs.Effects.{goes, aligned_of, slot_of, code_word, load_slot, load_at, load, store_slot, store_at, store, execute_of}
use Rattle.arm_state.specs.declared.Machine.{Machine}
use Rattle.arm_state.specs.KeptFlags.{sets_of, Kept, flags_after}

-- ── a comparison and its branches ──

module _ (m : Machine) (d x y : ℕ) (hx : x < 4294967296) (hy : y < 4294967296) where
  -- after x - y: Z where they are equal
  zero_after : (subtracts m d x y).flags.z ≡ eqb x y
  unfolding result
  zero_after =
      rw (difference_word x y hy)
      (by_test (λ t. eqb (sub x y) 0 ≡ t) (eqb x y)
      (λ e. let e' = eqb-true x y e in eq-eqb (sub x y) 0 (omega arith))
      (λ e. let e' = eqb-false x y e in ne_eqb (sub x y) 0 (λ z. omega (arith, e'))))

  -- C where nothing is borrowed
  pub carry_after : (subtracts m d x y).flags.c ≡ leb y x
  unfolding result
  carry_after = difference_carry x y hx hy

  -- N and V differ where x is below y, both read signed
  pub less_after : less (subtracts m d x y) ≡ signed_less x y
  unfolding result
  less_after = rw (difference_word x y hy) (less_flags x y hx hy)

  -- and so the four branches go
  pub beq_after : (c w : List ℕ) (k : ℕ) → execute_of c w (subtracts m d x y) (Beq k) ≡ goes w (branch (subtracts m d x y) (eqb x y) k)
  unfolding execute_of
  beq_after c w k = ap (λ (b : Bool). goes w (branch (subtracts m d x y) b k)) zero_after

  pub bne_after : (c w : List ℕ) (k : ℕ) → execute_of c w (subtracts m d x y) (Bne k) ≡ goes w (branch (subtracts m d x y) (not (eqb x y)) k)
  unfolding execute_of
  bne_after c w k = ap (λ (b : Bool). goes w (branch (subtracts m d x y) (not b) k)) zero_after

  pub blt_after : (c w : List ℕ) (k : ℕ) → execute_of c w (subtracts m d x y) (Blt k) ≡ goes w (branch (subtracts m d x y) (signed_less x y) k)
  unfolding execute_of
  blt_after c w k = ap (λ (b : Bool). goes w (branch (subtracts m d x y) b k)) less_after

  pub bge_after : (c w : List ℕ) (k : ℕ) → execute_of c w (subtracts m d x y) (Bge k) ≡ goes w (branch (subtracts m d x y) (not (signed_less x y)) k)
  unfolding execute_of
  bge_after c w k = ap (λ (b : Bool). goes w (branch (subtracts m d x y) (not b) k)) less_after

-- NEGR is 0 - x: C for 0 alone, V for 2 ^ 31 alone
module _ (c w : List ℕ) (m : Machine) (r d : ℕ) (h : reg m r < 4294967296) where
  pub negr_carry : (execute_of c w m (Negr r d)).after.state.machine.flags.c ≡ eqb (reg m r) 0
  unfolding execute_of
  negr_carry =
      carry_after m d 0 (reg m r) (omega arith) h
      ∙ by_test (λ t. leb (reg m r) 0 ≡ t) (eqb (reg m r) 0)
      (λ e. le-leb (reg m r) 0 (omega (arith, eqb-true (reg m r) 0 e)))
      (λ e. lt-leb (reg m r) 0 (omega (arith, eqb-false (reg m r) 0 e)))

  pub negr_overflow : (execute_of c w m (Negr r d)).after.state.machine.flags.v ≡ eqb (reg m r) sign
  unfolding execute_of result
  negr_overflow = negative_overflow (reg m r) h

-- ── shifts ──

-- by nothing, C stays
pub left_by_nothing : (m : Machine) (d x : ℕ) → (shifts_left m d x 0).flags.c ≡ m.flags.c
unfolding result
left_by_nothing m d x = refl

pub right_by_nothing : (m : Machine) (d x : ℕ) → (shifts_right m d x 0).flags.c ≡ m.flags.c
unfolding result
right_by_nothing m d x = refl

-- by 32, C is the bit at the end
pub left_by_32 : (m : Machine) (d x : ℕ) → (shifts_left m d x 32).flags.c ≡ eqb (x % 2) 1
unfolding result
left_by_32 m d x = let e : x * 4294967296 / 4294967296 % 2 ≡ x % 2 = omega arith in last_left_extended x 32 (omega arith) ∙ ap (λ (b : ℕ). eqb b 1) e

pub right_by_32 : (m : Machine) (d x : ℕ) → x < 4294967296 → (shifts_right m d x 32).flags.c ≡ eqb (x / 2147483648 % 2) 1
unfolding result
right_by_32 m d x h = last_right_extended x 32 h (omega arith)

pub signed_by_32 : (m : Machine) (d x : ℕ) → x < 4294967296 → (shifts_right_signed m d x 32).flags.c ≡ eqb (x / 2147483648 % 2) 1
unfolding result
signed_by_32 m d x h = last_right_extended x 32 h (omega arith)

-- above 32, C is 0
pub left_above_32 : (m : Machine) (d x n : ℕ) → 32 < n → (shifts_left m d x n).flags.c ≡ false
unfolding result last_left
left_above_32 m d x n h = rw (ne_eqb n 0 (λ e. omega arith), shift_left_large x (n - 1) (omega arith))

pub right_above_32 : (m : Machine) (d x n : ℕ) → 32 < n → (shifts_right m d x n).flags.c ≡ false
unfolding result last_right
right_above_32 m d x n h = rw (ne_eqb n 0 (λ e. omega arith), shift_right_large x (n - 1) (omega arith))

-- ── what isn't named stays ──

load_flags : (c w : List ℕ) (m : Machine) (d a : ℕ) → flags_after (load c w m d a) ≡ m.flags
unfolding load takes
load_flags c w m d a = at (aligned_of a)
  where
    in_data : (s : Option ℕ) → flags_after (load_slot w m d s) ≡ m.flags
    in_data (Some k) = refl
    in_data None = refl

    at : (x : Option ℕ) → flags_after (load_at c w m d x) ≡ m.flags
    at (Some b) =
        by_test (λ t. flags_after (pick t (goes w (takes m d (code_word c b))) (load_slot w m d (slot_of b (length w)))) ≡ m.flags) (leb (b + 4) (length c))
        (λ _. refl)
        (λ _. in_data (slot_of b (length w)))
    at None = refl

store_flags : (w : List ℕ) (m : Machine) (d a : ℕ) → flags_after (store w m d a) ≡ m.flags
unfolding store next
store_flags w m d a = at (aligned_of a)
  where
    in_data : (s : Option ℕ) → flags_after (store_slot w m d s) ≡ m.flags
    in_data (Some k) = refl
    in_data None = refl

    at : (x : Option ℕ) → flags_after (store_at w m d x) ≡ m.flags
    at (Some b) = in_data (slot_of b (length w))
    at None = refl

branch_flags : (m : Machine) (b : Bool) (k : ℕ) → (branch m b k).flags ≡ m.flags
unfolding branch jump next
branch_flags m true k = refl
branch_flags m false k = refl

pub flags_kept : (c w : List ℕ) (m : Machine) (i : Instr) → Kept (sets_of i) m.flags (flags_after (execute_of c w m i))
unfolding execute_of result takes moves jump link
flags_kept c w m (Shli n l d) = refl
flags_kept c w m (Shri n l d) = refl
flags_kept c w m (Ashri n l d) = refl
flags_kept c w m (Addr r l d) = tt
flags_kept c w m (Subr r l d) = tt
flags_kept c w m (Movi d u) = (refl, refl)
flags_kept c w m (Addi d u) = tt
flags_kept c w m (Subi d u) = tt
flags_kept c w m (Ldrpci d u) = load_flags c w m d _
flags_kept c w m (Strspi d u) = store_flags w m d _
flags_kept c w m (Ldrspi d u) = load_flags c w m d _
flags_kept c w m (Addpci d u) = refl
flags_kept c w m (Addspi d u) = refl
flags_kept c w m (Andr r d) = (refl, refl)
flags_kept c w m (Xorr r d) = (refl, refl)
flags_kept c w m (Shl r d) = refl
flags_kept c w m (Shr r d) = refl
flags_kept c w m (Negr r d) = tt
flags_kept c w m (Orr r d) = (refl, refl)
flags_kept c w m (Mul r d) = (refl, refl)
flags_kept c w m (Mvnr r d) = (refl, refl)
flags_kept c w m (Str i b d) = store_flags w m d _
flags_kept c w m (Ldr i b d) = load_flags c w m d _
flags_kept c w m (Stri u b d) = store_flags w m d _
flags_kept c w m (Ldri u b d) = load_flags c w m d _
flags_kept c w m (Incsp u) = refl
flags_kept c w m (Decsp u) = refl
flags_kept c w m (Svc u) = refl
flags_kept c w m (Beq k) = branch_flags m _ k
flags_kept c w m (Bne k) = branch_flags m _ k
flags_kept c w m (Bge k) = branch_flags m _ k
flags_kept c w m (Blt k) = branch_flags m _ k
flags_kept c w m (Bu k) = refl
flags_kept c w m (Bl k) = refl
