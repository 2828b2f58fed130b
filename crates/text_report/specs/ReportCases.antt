-- Two reports worked out from the source's bytes: document 01's own, and one whose five counts all differ. Laws; assumes nothing.
use Rattle.std.specs.Prelude.{◌≡◌, refl}
use Rattle.x_spelling.specs.Characters.{one_of, digit_value, name_character, span, numeral}
use Rattle.x_spelling.specs.Words.{same, reserved, first_match}
use Rattle.x_tokens.specs.Lexemes as lexemes
use Rattle.x_tokens.specs.Lexemes.{double, single, symbol, lexeme}
use Rattle.x_tokens.specs.TokenList.{scan, outcome}
use Rattle.x_grammar.specs.Automaton.{run, reads}
use Rattle.x_names.specs.Complaints.{least}
use Rattle.x_names.specs.Scope.{lookup}
use Rattle.x_program.specs.Tree.{data_words}
use Rattle.x_program.specs.Rows.{count, count_process, row_count}
use Rattle.x_verdict.specs.Front.{named, front}
use Rattle.x_verdict.specs.Symbols.{entry_at, symbols, unread_place}
use Rattle.arm_encoding.specs.Encoding.{encode_of, put}
use Rattle.arm_encoding.specs.EncodingBytes.{encoded_bytes}
use Rattle.translate_rules.specs.InstructionBytes.{bytes_of, bytes}
use Rattle.translate_rules.specs.Constant.{load_constant}
use Rattle.translate_rules.specs.Blocks.{push_constant, work_diadic_code, assign_variable}
use Rattle.translate_rules.specs.ImageCode.{expression_code, process_code, image_code, image}
use Rattle.arm_word.specs.Ascii.{ascii}
use Rattle.text_lines.specs.Text.{digits, summary}
use Rattle.text_report.specs.Report.{report_of}

-- The report program: "For `skip;` the whole output is"
pub skip_case : report_of (ascii "skip;") ≡ ascii "status=6\nplace=4\ntokens=0\nrows=0\ndata=0\ndepth=0\ncode=0\n"
unfolding report_of front outcome scan lexeme lexemes.named double single symbol one_of digit_value name_character span same reserved first_match reads run symbols unread_place summary digits
skip_case = refl

-- Marked and other cases: "`var x; x := 2 + 3`: 8 tokens, D 1, N 2", five rows; its sixteen instructions have 32 bytes
pub sum_case : report_of (ascii "var x; x := 2 + 3") ≡ ascii "status=0\nplace=0\ntokens=8\nrows=5\ndata=1\ndepth=2\ncode=32\n"
unfolding report_of front outcome scan lexeme lexemes.named lexemes.number double single symbol one_of digit_value name_character span numeral same reserved first_match
    reads run symbols entry_at named least lookup data_words row_count count count_process image image_code process_code expression_code push_constant load_constant work_diadic_code
    assign_variable bytes bytes_of encoded_bytes encode_of put summary digits
sum_case = refl
