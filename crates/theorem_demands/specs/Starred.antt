-- Document 01's starred cases, in its order, as one statement over a list: what the definitions of the demands come to, worked out. Rests on these definitions.
use Rattle.std.specs.Prelude.{◌≡◌, refl, List, [], ◌∷◌, map, ℕ, take, replicate}
use Rattle.std.specs.Int.Count.{count_trailing_zeros, count_leading_zeros}
use Rattle.arm_word.specs.Word.{shift_left, shift_right}
use Rattle.arm_word.specs.Ascii.{ascii}
use Rattle.x_spelling.specs.Characters.{one_of, digit_value, name_character, span, numeral}
use Rattle.x_spelling.specs.Words.{same, reserved, first_match}
use Rattle.x_tokens.specs.Lexemes as lexemes
use Rattle.x_tokens.specs.Lexemes.{double, single, symbol, lexeme}
use Rattle.x_tokens.specs.TokenList.{scan, outcome}
use Rattle.x_grammar.specs.Automaton.{run, reads}
use Rattle.x_names.specs.Complaints.{least}
use Rattle.x_names.specs.Scope.{lookup}
use Rattle.x_program.specs.Tree.{data_words}
use Rattle.x_program.specs.ProgramDepth.{deepest}
use Rattle.x_program.specs.Rows.{rows, count, rows_process, count_process, declared_rows, table_of, row_count}
use Rattle.x_verdict.specs.Symbols.{entry_at, symbols, unread_place}
use Rattle.x_verdict.specs.Front.{Outcome, refused, accepted, named, front}
use Rattle.translate_rules.specs.InstructionBytes.{bytes_of, bytes, size}
use Rattle.translate_rules.specs.Constant.{load_constant}
use Rattle.translate_rules.specs.Blocks.{push_constant, less_than, far_shift, work_diadic_code, assign_variable}
use Rattle.translate_rules.specs.ImageCode.{expression_code, process_code, image_code, image}
use Rattle.translate_source.specs.Translate.{Translated, translation}
use Rattle.translate_source.specs.declared.Translation.{Translation}
use Rattle.arm_state.specs.State.{needed, next, takes, result, jump, branch, fresh_of}
use Rattle.arm_state.specs.State as state
use Rattle.arm_state.specs.Effects as exec
use Rattle.arm_state.specs.Effects.{slot_of, execute_of}
use Rattle.arm_machine.specs.Step.{with_second, fetch_of, once_of, refusal_of}
use Rattle.arm_machine.specs.MachineRun.{RunAfter, run_from, run_of}
use Rattle.arm_machine.specs.Start.{start_refusal, start_of}
use Rattle.arm_machine.specs.declared.Started.{Started}
use Rattle.arm_encoding.specs.declared.Instr.{Instr}
use Rattle.arm_encoding.specs.declared.Instr.TheVariants.{Movi, Addr, Subr, Stri, Shri, Bu, Bl}
use Rattle.arm_encoding.specs.EncodingBytes.{encoded_bytes}
use Rattle.arm_encoding.specs.Encoding.{Encoded, encode_of, decode_of, find, table, put, put_long, swap32, narrow, widen}

-- a source's bytes, translated; a source's bytes, translated and run to its end; an instruction
pub data Case : Type 0 where
  translating : List ℕ → Case
  running : List ℕ → Case
  encoding : Instr → Case

-- status and place, and of an accepted source its tokens, D, N, needed words and rows
abbrev pub seen : Outcome → List ℕ
seen (refused n p) = n ∷ p ∷ []
seen (accepted n q) = 0 ∷ 0 ∷ n ∷ data_words q.declarations ∷ deepest q.body ∷ needed (data_words q.declarations) (deepest q.body) ∷ table_of q

-- what the public calls come to one after another: translate, start on the needed words, none of them 0 or -1, by the answer's D and N, and a run of at most 100 instructions:
-- the three statuses, the SVC's number and the D words
abbrev pub ended : Translation → ℕ → RunAfter → List ℕ
ended t start r = t.status ∷ start ∷ r.state.status ∷ r.state.number ∷ take t.«data» r.words

abbrev pub run_image : Translation → List ℕ → List ℕ → Started → List ℕ
run_image t code memory s = ended t s.status (run_of 100 code memory s.machine)

abbrev pub run_on : Translation → List ℕ → List ℕ → List ℕ
run_on t code memory = run_image t code memory (start_of code memory t.«data» t.depth)

abbrev pub run_all : Translated → List ℕ
run_all t = run_on t.answer (take t.answer.code t.code) (replicate (needed t.answer.«data» t.answer.depth) 7)

-- status, count of halfwords and the halfwords
abbrev pub halfwords : Encoded → List ℕ
halfwords e = e.status ∷ e.count ∷ e.first ∷ e.second ∷ []

abbrev pub comes_to : Case → List ℕ
comes_to (translating s) = seen (front s 32 640)
comes_to (running s) = run_all (translation s (replicate 32 7) (replicate 640 7))
comes_to (encoding i) = halfwords (encode_of i)

-- `var x; x := 2 + 3`, the empty source, `x := 1`, `{skip;}`; `#80000000 < 1` and `1 << 256`, each assigned to a variable; MOVI r0,5, ADDR r0,r1,r2, SUBR r3,r4,r5, STRI r0 to r7 offset 4,
-- SHRI r0,r0,31, BU and BL to itself
abbrev pub cases : List Case
cases =
    translating (ascii "var x; x := 2 + 3")
    ∷ translating (ascii "")
    ∷ translating (ascii "x := 1")
    ∷ translating (ascii "{skip;}")
    ∷ running (ascii "var x; x := #80000000 < 1")
    ∷ running (ascii "var x; x := 1 << 256")
    ∷ encoding (Movi 0 5)
    ∷ encoding (Addr 2 1 0)
    ∷ encoding (Subr 5 4 3)
    ∷ encoding (Stri 1 7 0)
    ∷ encoding (Shri 31 0 0)
    ∷ encoding (Bu 4294967294)
    ∷ encoding (Bl 4294967294)
    ∷ []

abbrev pub answers : List (List ℕ)
answers =
    (0 ∷ 0 ∷ 8 ∷ 1 ∷ 2 ∷ 13 ∷ 1 ∷ 0 ∷ 1 ∷ 0 ∷ 3 ∷ 2 ∷ 0 ∷ 0 ∷ 3 ∷ 3 ∷ 0 ∷ 0 ∷ 7 ∷ 1 ∷ 1 ∷ 2 ∷ 10 ∷ 0 ∷ 3 ∷ 0 ∷ [])
    ∷ (6 ∷ 0 ∷ [])
    ∷ (8 ∷ 0 ∷ [])
    ∷ (6 ∷ 6 ∷ [])
    ∷ (0 ∷ 0 ∷ 1 ∷ 0 ∷ 0xFFFFFFFF ∷ [])
    ∷ (0 ∷ 0 ∷ 1 ∷ 0 ∷ 0 ∷ [])
    ∷ (0 ∷ 1 ∷ 0x2005 ∷ 0 ∷ [])
    ∷ (0 ∷ 1 ∷ 0x1888 ∷ 0 ∷ [])
    ∷ (0 ∷ 1 ∷ 0x1B63 ∷ 0 ∷ [])
    ∷ (0 ∷ 1 ∷ 0x6078 ∷ 0 ∷ [])
    ∷ (0 ∷ 1 ∷ 0x0FC0 ∷ 0 ∷ [])
    ∷ (0 ∷ 1 ∷ 0xE7FE ∷ 0 ∷ [])
    ∷ (0 ∷ 2 ∷ 0xF7FF ∷ 0xFFFE ∷ [])
    ∷ []

pub starred : map comes_to cases ≡ answers
unfolding front outcome scan lexeme lexemes.named lexemes.number double single symbol one_of digit_value name_character span numeral same reserved first_match reads run
    symbols entry_at unread_place named least lookup data_words table_of row_count rows count rows_process count_process declared_rows translation image image_code process_code
    expression_code push_constant less_than far_shift work_diadic_code assign_variable load_constant count_trailing_zeros count_leading_zeros bytes bytes_of size encoded_bytes encode_of put put_long
    swap32 narrow widen start_of start_refusal refusal_of fresh_of run_of run_from once_of fetch_of with_second decode_of find table execute_of exec.load exec.store slot_of result takes next
    branch jump state.moves shift_left shift_right
starred = refl
