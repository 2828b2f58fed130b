-- The instructions of a tree, and the image. Definitions; the tree is that of the syntax table.
use Rattle.std.specs.Prelude.{ℕ, ◌+◌, List, [], ◌∷◌, ◌++◌}
use Rattle.arm_encoding.specs.declared.Instr.{Instr}
use Rattle.arm_encoding.specs.declared.Instr.TheVariants.{Svc}
use Rattle.x_program.specs.Tree.{Program}
use Rattle.x_program.specs.Core.{Expression, constant, variable, element, monadic, diadic, Process, skip, stop, assign, assign_element, sequence, conditional, loop, core_process}
use Rattle.translate_rules.specs.InstructionBytes.{bytes, size}
use Rattle.translate_rules.specs.Blocks.{push_constant, push_variable, check_subscript, load_element, work_monadic_code, work_diadic_code, assign_variable, store_element}
use Rattle.translate_rules.specs.Blocks.{take_condition, jump_over}
use Rattle.translate_rules.specs.Blocks.{jump_back}

unfoldable pub expression_code : Expression → List Instr
expression_code (constant w) = push_constant w
expression_code (variable v) = push_variable v.offset
expression_code (element a e) = expression_code e ++ (check_subscript a.length ++ load_element a.offset)
expression_code (monadic o e) = expression_code e ++ work_monadic_code o
expression_code (diadic o e f) = expression_code e ++ (expression_code f ++ work_diadic_code o)

-- after a condition: the first part, or a jump over it and over the jump at its end
unfoldable pub choice_code : List Instr → List Instr → List Instr
choice_code p q = take_condition ++ jump_over (size p + 4) ∷ (p ++ jump_over (size q) ∷ q)

-- after a loop's condition e: the body and a jump back to the condition, or a jump over both
unfoldable pub repeat_code : List Instr → List Instr → List Instr
repeat_code e p = take_condition ++ jump_over (size p + 4) ∷ (p ++ jump_back (size e + size p + 16) ∷ [])

-- The image: "`SVC 0` is finish, `SVC 1` stop"
unfoldable pub process_code : Process → List Instr
process_code skip = []
process_code stop = Svc 1 ∷ []
process_code (assign v e) = expression_code e ++ assign_variable v.offset
process_code (assign_element a s e) =
    expression_code s ++ (check_subscript a.length ++ (expression_code e ++ store_element a.offset))
process_code (sequence p q) = process_code p ++ process_code q
process_code (conditional e p q) = expression_code e ++ choice_code (process_code p) (process_code q)
process_code (loop e p) = expression_code e ++ repeat_code (expression_code e) (process_code p)

unfoldable pub image_code : Process → List Instr
image_code p = process_code p ++ Svc 0 ∷ []

-- the image's bytes: a function of the syntax table's tree alone
unfoldable pub image : Program → List ℕ
image p = bytes (image_code (core_process p.body))
