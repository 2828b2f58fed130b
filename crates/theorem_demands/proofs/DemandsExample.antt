-- The premises of the demands can be met: document 01's `var x; x := 2 + 3`, from its bytes to the end of its run. Instances.
use Rattle.std.specs.Prelude.{◌≡◌, refl, List, [], ◌∷◌, ℕ, ◌≤◌, take, replicate}
use Rattle.std.proofs.Common.{ap, ◌∙◌, arith, lit≤}
use Rattle.arm_word.specs.Ascii.{ascii}
use Rattle.x_spelling.specs.Characters.{one_of, digit_value, name_character, span, numeral}
use Rattle.x_spelling.specs.Words.{same, reserved, first_match}
use Rattle.x_tokens.specs.Lexemes as lexemes
use Rattle.x_tokens.specs.Lexemes.{double, single, symbol, lexeme}
use Rattle.x_tokens.specs.TokenList.{scan, outcome}
use Rattle.x_grammar.specs.Automaton as automaton
use Rattle.x_names.specs.Complaints.{least}
use Rattle.x_names.specs.Scope.{lookup}
use Rattle.x_program.specs.Tree.{Program, var, data_words, assign, diadic, plus, constant}
use Rattle.x_program.specs.Rows.{rows, count, rows_process, count_process, declared_rows, table_of, row_count}
use Rattle.x_verdict.specs.Symbols.{entry_at, symbols, unread_place}
use Rattle.x_verdict.specs.Front.{accepted, named, front}
use Rattle.arm_encoding.specs.Encoding.{encode_of, put}
use Rattle.arm_encoding.specs.EncodingBytes.{encoded_bytes}
use Rattle.translate_rules.specs.InstructionBytes.{bytes_of, bytes}
use Rattle.translate_rules.specs.Constant.{load_constant}
use Rattle.translate_rules.specs.Blocks.{push_constant, work_diadic_code, assign_variable}
use Rattle.translate_rules.specs.ImageCode.{expression_code, process_code, image_code, image}
use Rattle.translate_source.specs.Translate.{Translated, translation}
use Rattle.theorem_simulation.specs.Demand3.{Lent, run, call, EndsBy, started, Demand3}
use Rattle.theorem_walker.specs.Demand5.{walk, Eventually, WalksTo}
use Rattle.theorem_demands.specs.Demands.{Translates, update}
use Rattle.theorem_demands.proofs.DemandsProof.{front_translates, image_at_front, demands}

-- its bytes, the program that they are, buffers that hold old words and bytes, and memory of the 13 needed words
abbrev source : List ℕ
source = ascii "var x; x := 2 + 3"

abbrev five : Program
five = record { declarations = var ∷ []; body = assign (record { row = 0; offset = 0 }) (diadic plus (constant 2) (constant 3)) }

abbrev table : List ℕ
table = replicate 32 0xFFFFFFFF

abbrev code : List ℕ
code = replicate 640 0xFF

abbrev memory : List ℕ
memory = replicate 13 0xFFFFFFFF

-- what the call leaves, and an update into the same buffers, which declares no x
abbrev yesterday : Translated
yesterday = translation source table code

abbrev bad : List ℕ
bad = ascii "x := 1"

worked : (front source 32 640 ≡ accepted 8 five) × ((translation bad yesterday.table yesterday.code).answer.status ≡ 8)
unfolding translation front outcome scan lexeme lexemes.named lexemes.number double single symbol one_of digit_value name_character span numeral same reserved first_match automaton.reads
    automaton.run symbols entry_at unread_place named least lookup data_words table_of row_count rows count rows_process count_process declared_rows image image_code process_code
    expression_code push_constant work_diadic_code assign_variable load_constant bytes bytes_of encoded_bytes encode_of put
worked = (refl, refl)

translates_five : Translates source table code five
translates_five = front_translates source table code 8 five worked.0

lent_five : Lent five memory
unfolding data_words
lent_five = record { words = omega arith; enough = lit≤ tt; few = lit≤ tt }

-- demand 3 of it
pub demand_five : Demand3 five memory
demand_five = demands.three source table code five memory translates_five lent_five

-- its source's run ends after seven moves by finish with 5 in x; so every run of the image with a limit that is large enough ends by SVC 0 with 5 in x, with no access to an array
pub ends_five : (l : ℕ) × ((limit : ℕ) → l ≤ limit → EndsBy five 0 (5 ∷ []) [] (call (image five) (run limit) memory (started five memory)))
unfolding data_words
ends_five = demand_five.ends 7 0 refl

-- so does the walk of its table, request 2026-01
pub walks_five : Eventually (λ limit. WalksTo five 0 (5 ∷ []) [] (walk five memory limit))
unfolding data_words
walks_five = (demands.five source table code five memory translates_five lent_five).ends 7 0 refl

-- request 2026-06: the update is refused, and yesterday's rule goes on
pub five_goes_on : update yesterday bad ≡ yesterday
five_goes_on = demands.one.goes_on yesterday bad (omega (arith, worked.1))

-- so the code still is the image that demands 3 and 4 speak of
pub still_five : take (update yesterday bad).answer.code (update yesterday bad).code ≡ image five
still_five = ap (λ (t : Translated). take t.answer.code t.code) five_goes_on ∙ image_at_front source table code five translates_five
