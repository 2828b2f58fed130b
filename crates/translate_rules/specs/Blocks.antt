-- The code of each thing that a program does: docs/TRANSLATION.md, a definition a rule. Definitions.
-- The operand stack is the machine's stack; r7 is the data's base; r0 to r3 are free between two things done.
use Rattle.std.specs.Prelude.{ℕ, ◌-◌, ◌*◌, ◌/◌, List, [], ◌∷◌, ◌++◌}
use Rattle.arm_encoding.specs.declared.Instr.{Instr}
use Rattle.arm_encoding.specs.declared.Instr.TheVariants.{Shli, Shri, Addr, Subr, Movi, Addi, Subi, Strspi, Ldrspi, Andr, Xorr, Shl, Shr, Negr, Orr, Mul, Mvnr, Str, Ldr, Incsp, Decsp, Svc}
use Rattle.arm_encoding.specs.declared.Instr.TheVariants.{Beq, Bne, Bl}
use Rattle.x_program.specs.Tree.{Monadic, negate, invert, Diadic, plus, minus, times, bitwise_and, bitwise_or, bitwise_xor, right, left, equal, unequal, less, at_most, greater, at_least}
use Rattle.translate_rules.specs.Constant.{load_constant}

-- ── expressions: each leaves one word more on the stack ──

-- a constant goes on the stack
unfoldable pub push_constant : ℕ → List Instr
push_constant w = Decsp 1 ∷ load_constant 0 w ++ Strspi 0 0 ∷ []

-- the variable at word offset o goes on the stack
unfoldable pub push_variable : ℕ → List Instr
push_variable o = Decsp 1 ∷ load_constant 1 (4 * o) ++ Ldr 1 7 0 ∷ Strspi 0 0 ∷ []

-- What a program means: "A subscript, read unsigned, that is not below the array's length ends the run": first that it is below 2 ^ 14, then that its difference from the length n is
-- negative; each test has its own SVC 2
unfoldable pub check_subscript : ℕ → List Instr
check_subscript n =
    Ldrspi 0 0 ∷ Shri 14 0 2 ∷ Beq 0 ∷ Svc 2 ∷ load_constant 1 n ++ Subr 1 0 2 ∷ Shri 31 2 2 ∷ Bne 0 ∷ Svc 2 ∷ []

-- the subscript on the stack gives way to its element, of the array at word offset o
unfoldable pub load_element : ℕ → List Instr
load_element o = Ldrspi 0 0 ∷ Shli 2 0 0 ∷ load_constant 1 (4 * o) ++ Addr 1 0 0 ∷ Ldr 0 7 0 ∷ Strspi 0 0 ∷ []

-- ── operators ──

abbrev pub monadic_instruction : Monadic → Instr
monadic_instruction negate = Negr 0 0
monadic_instruction invert = Mvnr 0 0

unfoldable pub work_monadic_code : Monadic → List Instr
work_monadic_code o = Ldrspi 0 0 ∷ monadic_instruction o ∷ Strspi 0 0 ∷ []

-- r0 takes the truth of register i being below register j as signed numbers: of equal signs the difference's sign decides, else the first one's. "001's `<` (subtract, then sign) is wrong
-- when the difference overflows"
unfoldable pub less_than : ℕ → ℕ → List Instr
less_than i j = Shri 31 i 2 ∷ Shri 31 j 3 ∷ Subr 3 2 3 ∷ Bne 1 ∷ Subr j i 0 ∷ Shri 31 0 2 ∷ Negr 2 0 ∷ []

-- "SHR by a register holding 256 shifts by nothing; X wants 0": a count above 31 makes both registers 0 first
unfoldable pub far_shift : List Instr
far_shift = Shri 5 1 2 ∷ Beq 1 ∷ Movi 0 0 ∷ Movi 1 0 ∷ []

-- r0 takes r0 and r1 worked together
abbrev pub diadic_instructions : Diadic → List Instr
diadic_instructions plus = Addr 1 0 0 ∷ []
diadic_instructions minus = Subr 1 0 0 ∷ []
diadic_instructions times = Mul 1 0 ∷ []
diadic_instructions bitwise_and = Andr 1 0 ∷ []
diadic_instructions bitwise_or = Orr 1 0 ∷ []
diadic_instructions bitwise_xor = Xorr 1 0 ∷ []
diadic_instructions right = far_shift ++ Shr 1 0 ∷ []
diadic_instructions left = far_shift ++ Shl 1 0 ∷ []
diadic_instructions equal = Subr 1 0 0 ∷ Beq 0 ∷ Movi 0 1 ∷ Subi 0 1 ∷ []
diadic_instructions unequal = Subr 1 0 0 ∷ Beq 0 ∷ Movi 0 1 ∷ Negr 0 0 ∷ []
diadic_instructions less = less_than 0 1
diadic_instructions at_most = less_than 1 0 ++ Mvnr 0 0 ∷ []
diadic_instructions greater = less_than 1 0
diadic_instructions at_least = less_than 0 1 ++ Mvnr 0 0 ∷ []

-- the right operand comes off the stack, the left one gives way to the result
unfoldable pub work_diadic_code : Diadic → List Instr
work_diadic_code o = Ldrspi 1 0 ∷ Incsp 1 ∷ Ldrspi 0 0 ∷ diadic_instructions o ++ Strspi 0 0 ∷ []

-- ── processes: each leaves the stack as it was ──

-- the word on the stack comes off, into the variable at word offset o
unfoldable pub assign_variable : ℕ → List Instr
assign_variable o = Ldrspi 0 0 ∷ Incsp 1 ∷ load_constant 1 (4 * o) ++ Str 1 7 0 ∷ []

-- value and subscript come off the stack, the value into the element, of the array at word offset o
unfoldable pub store_element : ℕ → List Instr
store_element o =
    Ldrspi 0 0 ∷ Ldrspi 1 1 ∷ Incsp 2 ∷ Shli 2 1 1 ∷ load_constant 2 (4 * o) ++ Addr 2 1 1 ∷ Str 1 7 0 ∷ []

-- the condition comes off the stack and sets Z; if it holds the jump that follows is stepped over
unfoldable pub take_condition : List Instr
take_condition = Ldrspi 0 0 ∷ Incsp 1 ∷ Addi 0 0 ∷ Bne 1 ∷ []

-- The machine: "Distances in halfwords from address + 4": a jump on, or back, by a number of bytes counted from the end of its own four
unfoldable pub jump_over : ℕ → Instr
jump_over n = Bl (n / 2)

unfoldable pub jump_back : ℕ → Instr
jump_back n = Bl (4294967296 - n / 2)
