-- The premises can be met, and the definitions compute: document 01's `var x; x := 2 + 3`, a loop over an array that ends by a bad subscript, and what calls count. Instances.
use Rattle.std.specs.Prelude.{◌≡◌, refl, List, [], ◌∷◌, map, ℕ, ◌≤◌, ◌<◌, true, length, take, drop, replicate}
use Rattle.std.proofs.Common.{arith, lit<, lit≤}
use Rattle.std.specs.Int.Count.{count_trailing_zeros, count_leading_zeros}
use Rattle.arm_word.specs.Word.{shift_left, shift_right, signed_less}
use Rattle.arm_word.specs.Access.{stored}
use Rattle.arm_encoding.specs.Encoding.{put, put_long, swap32, narrow, widen, encode_of, decode_of, find, table}
use Rattle.arm_encoding.specs.EncodingBytes.{encoded_bytes}
use Rattle.x_program.specs.Tree.{Program, Variable, var, array, data_words, array_word, constant, variable, diadic, plus, less, assign, assign_element, braces, loop, none, also}
use Rattle.x_meaning.specs.SourceRun.{moves, begin, ends_with}
use Rattle.translate_rules.specs.InstructionBytes.{bytes_of, bytes, size}
use Rattle.translate_rules.specs.Constant.{load_constant}
use Rattle.translate_rules.specs.Blocks.{push_constant, push_variable, check_subscript, less_than, work_diadic_code, assign_variable, store_element, take_condition, jump_over, jump_back}
use Rattle.translate_rules.specs.ImageCode.{expression_code, repeat_code, process_code, image_code, image}
use Rattle.arm_state.specs.State.{no_flags, next, takes, result, jump, branch, link, fresh_of}
use Rattle.arm_state.specs.State as state
use Rattle.arm_state.specs.Effects as exec
use Rattle.arm_state.specs.Effects.{Effect, slot_of, execute_of}
use Rattle.arm_machine.specs.Step.{with_second, fetch_of, once_of, refusal_of, step_of}
use Rattle.arm_machine.specs.MachineRun.{run_from, run_of}
use Rattle.arm_machine.specs.Start.{start_refusal, start_of}
use Rattle.arm_machine.specs.Trace.{listed}
use Rattle.x_program.specs.Sound.{Sound, here}
use Rattle.theorem_simulation.specs.Demand3.{Each, Lent, Call, step, run, Called, call, calls, Orderly, Answered, EndsBy, tried, started, Demand3}
use Rattle.theorem_simulation.proofs.Demand3Proof.{demand3}

-- var x; x := 2 + 3
unfoldable pub five : Program
five = record { declarations = var ∷ []; body = assign (record { row = 0; offset = 0 }) (diadic plus (constant 2) (constant 3)) }

-- 13 needed words, and one more; among them the largest word
unfoldable pub lent_words : List ℕ
lent_words = 7 ∷ 1 ∷ 2 ∷ 3 ∷ 4 ∷ 5 ∷ 6 ∷ 7 ∷ 8 ∷ 9 ∷ 10 ∷ 11 ∷ 0xFFFFFFFF ∷ 99 ∷ []

pub five_image : length (image five) ≡ 32
unfolding five image image_code process_code expression_code push_constant work_diadic_code assign_variable load_constant count_trailing_zeros count_leading_zeros bytes bytes_of encoded_bytes encode_of put
five_image = refl

pub five_sound : Sound five
unfolding five data_words
five_sound = record { lengths = tt; small = lit≤ tt; names = lit≤ tt; shallow = lit≤ tt; body = (here, (lit< tt, lit< tt)) }

pub five_lent : Lent five lent_words
unfolding five lent_words data_words
five_lent = record { words = omega arith; enough = lit≤ tt; few = lit≤ tt }

five_demand : Demand3 five lent_words
five_demand = demand3 five five_sound (rw five_image (lit≤ tt)) lent_words five_lent

-- it ends by SVC 0 with 5 in x
five_ends : EndsBy five 0 (5 ∷ []) [] (call (image five) (run 100) lent_words (started five lent_words))
unfolding five lent_words image image_code process_code expression_code push_constant work_diadic_code assign_variable load_constant count_trailing_zeros count_leading_zeros bytes bytes_of
    encoded_bytes encode_of put data_words array_word start_of start_refusal refusal_of fresh_of run_of run_from tried step_of once_of fetch_of with_second decode_of find table execute_of
    exec.load exec.store slot_of result takes next state.moves listed
five_ends = record { by_svc = refl; number = refl; same_words = refl; same_trace = refl }

-- ── the statement's clauses as they read for this program, each with its number: one that said less, or more, would not fit here ──

-- no word is taken for the needed ones but these 13, and no more than 16,384 are lent
five_needs : (memory : List ℕ) → Lent five memory → (13 ≤ length memory) × (length memory ≤ 16384)
unfolding five data_words
five_needs memory l = (l.enough, l.few)

-- start: sp is 0x20000034, r7 0x20000000, all else 0
five_starts : start_of (image five) lent_words 1 2 ≡ record { status = 0; machine = record { regs = 0 ∷ 0 ∷ 0 ∷ 0 ∷ 0 ∷ 0 ∷ 0 ∷ 0x20000000 ∷ []; sp = 0x20000034; lr = 0; pc = 0; flags = no_flags } }
unfolding five data_words fresh_of
five_starts = five_demand.starts

module _ (e : Effect) (o : Orderly five lent_words e) where
  five_completes : e.after.state.status < 2
  five_completes = o.no_fault

  five_stack : (0x20000004 ≤ e.after.state.machine.sp) × (e.after.state.machine.sp ≤ 0x20000034)
  unfolding five data_words
  five_stack = (o.kept.sp_low, o.kept.sp_high)

  five_within : Each (λ a. a.offset < 13) e.access
  unfolding five data_words
  five_within = o.within

  five_untouched : drop 13 e.after.words ≡ 99 ∷ []
  unfolding five data_words lent_words
  five_untouched = o.kept.untouched

  five_ended : e.after.state.status ≡ 1
      → (j : ℕ) × (ends_with (moves j (begin five lent_words)).end e.after.state.number ≡ true) × (take 1 e.after.words ≡ (moves j (begin five lent_words)).words)
  unfolding five data_words
  five_ended h = let x = o.ended h in (x.j, x.ends, x.same_words)

module _ (a : Called) (o : Answered five lent_words a) where
  five_answered : (a.status < 2) × (a.count ≡ length a.tries)
  five_answered = (o.not_refused, o.counted)

  five_left : (0x20000004 ≤ a.machine.sp) × (a.machine.sp ≤ 0x20000034) × (drop 13 a.words ≡ 99 ∷ [])
  unfolding five data_words lent_words
  five_left = (o.kept.sp_low, o.kept.sp_high, o.kept.untouched)

-- ── what calls count, on code that faults: no image does, so no clause of the statement says it ──

-- what a list of calls counts from a fresh machine without data
abbrev counts : List ℕ → List Call → List ℕ
counts code ks = map (λ c. c.count) (calls code ks [] (fresh_of 0 0))

-- `MOVI r0,5`, then no code: a step that completes counts 1, one that faults 0; a run counts the first alone
fault_counts : counts (0x05 ∷ 0x20 ∷ []) (step ∷ step ∷ run 5 ∷ []) ≡ 1 ∷ 0 ∷ 0 ∷ []
unfolding calls tried fresh_of refusal_of step_of once_of fetch_of with_second decode_of find table execute_of result takes next run_of run_from
fault_counts = refl

fault_counts_run : counts (0x05 ∷ 0x20 ∷ []) (run 0 ∷ run 5 ∷ []) ≡ 0 ∷ 1 ∷ []
unfolding calls tried fresh_of refusal_of step_of once_of fetch_of with_second decode_of find table execute_of result takes next run_of run_from
fault_counts_run = refl

-- the same before an SVC, which counts, each time that it is met
svc_counts : counts (0x05 ∷ 0x20 ∷ 0x00 ∷ 0xDF ∷ []) (run 5 ∷ step ∷ run 5 ∷ []) ≡ 2 ∷ 1 ∷ 1 ∷ []
unfolding calls tried fresh_of refusal_of step_of once_of fetch_of with_second decode_of find table execute_of result takes next run_of run_from
svc_counts = refl

-- var i; array v[1]; while i < 2 do { v[i] := i; i := i + 1 }, from i = 0: one store, then a bad subscript
counter : Variable
counter = record { row = 0; offset = 0 }

climb : Program
climb = record {
  declarations = var ∷ array 1 ∷ [];
  body = loop (diadic less (variable counter) (constant 2))
      (braces (also (assign_element (record { row = 1; offset = 1; length = 1 }) (variable counter) (variable counter)) (also (assign counter (diadic plus (variable counter) (constant 1))) none)));
}

-- 16 needed words, all 0
abbrev zeros : List ℕ
zeros = replicate 16 0

-- the source's trace has the one store
climb_access : (moves 100 (begin climb zeros)).trace ≡ stored 1 0 0 ∷ []
unfolding climb counter data_words signed_less
climb_access = refl

-- it ends with these words
climb_words : (moves 100 (begin climb zeros)).words ≡ 1 ∷ 0 ∷ []
unfolding climb counter data_words signed_less
climb_words = refl

climb_ends : EndsBy climb 2 (1 ∷ 0 ∷ []) (stored 1 0 0 ∷ []) (call (image climb) (run 120) zeros (started climb zeros))
unfolding climb counter image image_code process_code expression_code push_constant push_variable check_subscript store_element repeat_code take_condition jump_over jump_back
    less_than work_diadic_code assign_variable load_constant count_trailing_zeros count_leading_zeros bytes bytes_of size encoded_bytes encode_of put put_long narrow widen swap32 data_words
    array_word start_of start_refusal refusal_of fresh_of run_of run_from tried step_of once_of fetch_of with_second decode_of find table execute_of exec.load exec.store slot_of result takes next
    branch jump link state.moves shift_left shift_right listed
climb_ends = record { by_svc = refl; number = refl; same_words = refl; same_trace = refl }
