-- Every instruction comes to one of the five outcomes. Laws; rests on Effects and Lookup.
use Rattle.std.specs.Prelude.{◌≡◌, refl, Bool, true, false, List, ℕ, ◌+◌, ◌<◌, length, get_or, leb, Option, Some, None}
use Rattle.std.proofs.Common.{length-set, lit<}
use Rattle.arm_word.specs.Choice.{pick}
use Rattle.arm_word.specs.ChoiceLaws.{by_test}
use Rattle.arm_encoding.specs.declared.Instr.{Instr}
use Rattle.arm_encoding.specs.declared.Instr.TheVariants.{Shli, Shri, Ashri, Addr, Subr, Movi, Addi, Subi, Ldrpci, Strspi, Ldrspi, Addpci, Addspi, Andr, Xorr, Shl, Shr, Negr, Orr, Mul}
use Rattle.arm_encoding.specs.declared.Instr.TheVariants.{Mvnr, Str, Ldr}
use Rattle.arm_encoding.specs.declared.Instr.TheVariants.{Stri, Ldri, Incsp, Decsp, Svc, Beq, Bne, Bge, Blt, Bu, Bl}
use Rattle.arm_state.specs.State.{reg, next, takes, result, moves, jump, branch, link}
use Rattle.arm_state.specs.Effects.{goes, aligned_of, slot_of, code_word, load_slot, load_at, load, store_slot, store_at, store, execute_of}
use Rattle.arm_state.specs.Lookup.{slot_lt}
use Rattle.arm_state.specs.declared.Flags.{Flags}
use Rattle.arm_state.specs.declared.Machine.{Machine}
use Rattle.arm_state.specs.Outcome.{Outcome, completed, loaded_word, stored_word, ended_by, faulted}

-- ── every change keeps the number of registers ──

takes_registers : (m : Machine) (d v : ℕ) → length (takes m d v).regs ≡ length m.regs
unfolding takes
takes_registers m d v = length-set m.regs d v

next_registers : (m : Machine) → length (next m).regs ≡ length m.regs
unfolding next
next_registers m = refl

result_registers : (m : Machine) (d v : ℕ) (f : Flags) → length (result m d v f).regs ≡ length m.regs
unfolding result
result_registers m d v f = length-set m.regs d v

moves_registers : (m : Machine) (sp : ℕ) → length (moves m sp).regs ≡ length m.regs
unfolding moves
moves_registers m sp = refl

jump_registers : (m : Machine) (k : ℕ) → length (jump m k).regs ≡ length m.regs
unfolding jump
jump_registers m k = refl

link_registers : (m : Machine) (k : ℕ) → length (link m k).regs ≡ length m.regs
unfolding link
link_registers m k = refl

branch_registers : (m : Machine) (b : Bool) (k : ℕ) → length (branch m b k).regs ≡ length m.regs
unfolding branch
branch_registers m true k = jump_registers m k
branch_registers m false k = next_registers m

-- ── an instruction's outcome ──

load_outcome : (c w : List ℕ) (m : Machine) (d a : ℕ) → Outcome w m (load c w m d a)
unfolding load
load_outcome c w m d a = at (aligned_of a)
  where
    in_data : (s : Option ℕ) → ((k : ℕ) → s ≡ Some k → k < length w) → Outcome w m (load_slot w m d s)
    in_data (Some k) lt = loaded_word (takes m d (get_or w k 0)) k (takes_registers m d (get_or w k 0)) (lt k refl)
    in_data None lt = faulted 24 0 (lit< tt)

    at : (x : Option ℕ) → Outcome w m (load_at c w m d x)
    at (Some b) =
        by_test (λ t. Outcome w m (pick t (goes w (takes m d (code_word c b))) (load_slot w m d (slot_of b (length w))))) (leb (b + 4) (length c))
        (λ _. completed _ (takes_registers m d _))
        (λ _. in_data (slot_of b (length w)) (slot_lt b (length w)))
    at None = faulted 23 0 (lit< tt)

store_outcome : (w : List ℕ) (m : Machine) (d a : ℕ) → Outcome w m (store w m d a)
unfolding store
store_outcome w m d a = at (aligned_of a)
  where
    in_data : (s : Option ℕ) → ((k : ℕ) → s ≡ Some k → k < length w) → Outcome w m (store_slot w m d s)
    in_data (Some k) lt = stored_word (next m) k (reg m d) (next_registers m) (lt k refl)
    in_data None lt = faulted 24 0 (lit< tt)

    at : (x : Option ℕ) → Outcome w m (store_at w m d x)
    at (Some b) = in_data (slot_of b (length w)) (slot_lt b (length w))
    at None = faulted 23 0 (lit< tt)

pub execute_outcome : (c w : List ℕ) (m : Machine) (i : Instr) → Outcome w m (execute_of c w m i)
unfolding execute_of
execute_outcome c w m (Shli n l d) = completed _ (result_registers m d _ _)
execute_outcome c w m (Shri n l d) = completed _ (result_registers m d _ _)
execute_outcome c w m (Ashri n l d) = completed _ (result_registers m d _ _)
execute_outcome c w m (Addr r l d) = completed _ (result_registers m d _ _)
execute_outcome c w m (Subr r l d) = completed _ (result_registers m d _ _)
execute_outcome c w m (Movi d u) = completed _ (result_registers m d _ _)
execute_outcome c w m (Addi d u) = completed _ (result_registers m d _ _)
execute_outcome c w m (Subi d u) = completed _ (result_registers m d _ _)
execute_outcome c w m (Ldrpci d u) = load_outcome c w m d _
execute_outcome c w m (Strspi d u) = store_outcome w m d _
execute_outcome c w m (Ldrspi d u) = load_outcome c w m d _
execute_outcome c w m (Addpci d u) = completed _ (takes_registers m d _)
execute_outcome c w m (Addspi d u) = completed _ (takes_registers m d _)
execute_outcome c w m (Andr r d) = completed _ (result_registers m d _ _)
execute_outcome c w m (Xorr r d) = completed _ (result_registers m d _ _)
execute_outcome c w m (Shl r d) = completed _ (result_registers m d _ _)
execute_outcome c w m (Shr r d) = completed _ (result_registers m d _ _)
execute_outcome c w m (Negr r d) = completed _ (result_registers m d _ _)
execute_outcome c w m (Orr r d) = completed _ (result_registers m d _ _)
execute_outcome c w m (Mul r d) = completed _ (result_registers m d _ _)
execute_outcome c w m (Mvnr r d) = completed _ (result_registers m d _ _)
execute_outcome c w m (Str i b d) = store_outcome w m d _
execute_outcome c w m (Ldr i b d) = load_outcome c w m d _
execute_outcome c w m (Stri u b d) = store_outcome w m d _
execute_outcome c w m (Ldri u b d) = load_outcome c w m d _
execute_outcome c w m (Incsp u) = completed _ (moves_registers m _)
execute_outcome c w m (Decsp u) = completed _ (moves_registers m _)
execute_outcome c w m (Svc u) = ended_by u
execute_outcome c w m (Beq k) = completed _ (branch_registers m _ k)
execute_outcome c w m (Bne k) = completed _ (branch_registers m _ k)
execute_outcome c w m (Bge k) = completed _ (branch_registers m _ k)
execute_outcome c w m (Blt k) = completed _ (branch_registers m _ k)
execute_outcome c w m (Bu k) = completed _ (jump_registers m k)
execute_outcome c w m (Bl k) = completed _ (link_registers m k)
