-- Small programs, each run to its end by computation on both sides: the image on the machine, over a stack of zeros and of old words, and the source's run. Their ends and D words agree. Instances.
-- theorem_simulation has the theorem for all programs; these are the places where a rule goes wrong easily (document 01's four traps), and what an edit of the rules meets first.
use Rattle.std.specs.Prelude.{◌≡◌, refl, List, [], ◌∷◌, map, ℕ, take, replicate}
use Rattle.std.specs.Int.Count.{count_trailing_zeros, count_leading_zeros}
use Rattle.arm_word.specs.Word.{shift_left, shift_right, signed_less}
use Rattle.arm_encoding.specs.Encoding.{put, put_long, swap32, narrow, widen, encode_of, decode_of, find, table}
use Rattle.arm_encoding.specs.EncodingBytes.{encoded_bytes}
use Rattle.x_program.specs.Tree.{Variable, Array, constant, element, diadic, bitwise_and, right, less, Process, assign, assign_element, conditional, var, array, Program, data_words}
use Rattle.x_meaning.specs.SourceRun.{End, going, finish, stopped, bad_subscript, State, moves, begin}
use Rattle.arm_state.specs.State.{next, takes, result, jump, branch, link, fresh_of}
use Rattle.arm_state.specs.State as state
use Rattle.arm_state.specs.Effects as exec
use Rattle.arm_state.specs.Effects.{slot_of, execute_of}
use Rattle.arm_machine.specs.Step.{with_second, fetch_of, once_of, refusal_of}
use Rattle.arm_machine.specs.MachineRun.{RunAfter, run_from, run_of}
use Rattle.translate_rules.specs.InstructionBytes.{bytes_of, bytes, size}
use Rattle.translate_rules.specs.Constant.{load_constant}
use Rattle.translate_rules.specs.Blocks.{push_constant, check_subscript, load_element, less_than, far_shift, work_diadic_code, assign_variable, store_element, take_condition, jump_over}
use Rattle.translate_rules.specs.ImageCode.{expression_code, choice_code, process_code, image_code, image}

-- var x; array v[2]
abbrev x : Variable
x = record { row = 0; offset = 0 }

abbrev v : Array
v = record { row = 1; offset = 1; length = 2 }

abbrev program : Process → Program
program p = record { declarations = var ∷ array 2 ∷ []; body = p }

-- 3 declared words, all 0, and a stack of old words, each w
abbrev words : ℕ → List ℕ
words w = 0 ∷ 0 ∷ 0 ∷ replicate 16 w

-- an end's SVC number
abbrev number : End → ℕ
number going = 99
number finish = 0
number stopped = 1
number bad_subscript = 2

-- status, SVC number and D words of a run of the image
abbrev on_machine : RunAfter → List ℕ
on_machine r = r.state.status ∷ r.state.number ∷ take 3 r.words

-- the same of the source's run: it ended, so status 1
abbrev of_source : State → List ℕ
of_source s = 1 ∷ number s.end ∷ s.words

abbrev by_image : ℕ → Process → List ℕ
by_image w p = on_machine (run_of 60 (image (program p)) (words w) (fresh_of 3 3))

abbrev by_source : Process → List ℕ
by_source p = of_source (moves 30 (begin (program p) (words 0)))

-- x := v[9]: the check comes before the load
-- x := #80000000 < 1: the difference overflows
-- x := 5 >> 256: the count's low byte is 0
-- x := 0 and v[9]: the right operand is worked out
-- if 0 then x := 1 else x := 2: the jump's distance
-- v[1] := 7: the subscript first, then the value
abbrev processes : List Process
processes =
    assign x (element v (constant 9))
    ∷ assign x (diadic less (constant 0x80000000) (constant 1))
    ∷ assign x (diadic right (constant 5) (constant 256))
    ∷ assign x (diadic bitwise_and (constant 0) (element v (constant 9)))
    ∷ conditional (constant 0) (assign x (constant 1)) (assign x (constant 2))
    ∷ assign_element v (constant 1) (constant 7)
    ∷ []

-- status, SVC number, x, v[0], v[1]
abbrev outcomes : List (List ℕ)
outcomes =
    (1 ∷ 2 ∷ 0 ∷ 0 ∷ 0 ∷ [])
    ∷ (1 ∷ 0 ∷ 0xFFFFFFFF ∷ 0 ∷ 0 ∷ [])
    ∷ (1 ∷ 0 ∷ 0 ∷ 0 ∷ 0 ∷ [])
    ∷ (1 ∷ 2 ∷ 0 ∷ 0 ∷ 0 ∷ [])
    ∷ (1 ∷ 0 ∷ 2 ∷ 0 ∷ 0 ∷ [])
    ∷ (1 ∷ 0 ∷ 0 ∷ 0 ∷ 7 ∷ [])
    ∷ []

pub source_outcomes : map by_source processes ≡ outcomes
unfolding data_words shift_right signed_less
source_outcomes = refl

pub image_outcomes : map (by_image 0) processes ≡ outcomes
unfolding image image_code process_code expression_code push_constant check_subscript load_element less_than far_shift work_diadic_code assign_variable store_element choice_code
    take_condition jump_over load_constant count_trailing_zeros count_leading_zeros bytes bytes_of size encoded_bytes encode_of put put_long swap32 narrow refusal_of fresh_of run_of run_from once_of
    fetch_of with_second decode_of find table widen execute_of exec.load exec.store slot_of result takes next branch jump link state.moves shift_left shift_right
image_outcomes = refl

-- a stack that holds old words gives the same: a rule that reads one before it is written may do well on zeros
pub old_words : map (by_image 9) processes ≡ outcomes
unfolding image image_code process_code expression_code push_constant check_subscript load_element less_than far_shift work_diadic_code assign_variable store_element choice_code
    take_condition jump_over load_constant count_trailing_zeros count_leading_zeros bytes bytes_of size encoded_bytes encode_of put put_long swap32 narrow refusal_of fresh_of run_of run_from once_of
    fetch_of with_second decode_of find table widen execute_of exec.load exec.store slot_of result takes next branch jump link state.moves shift_left shift_right
old_words = refl
