-- The explanation of a source, whole (docs/EXPLAIN.md). Definitions; rests on the translation, the place, the reason and the names.
use Rattle.std.specs.Prelude.{ℕ, Bool, true, List, [], ◌∷◌, ◌++◌, eqb, leb}
use Rattle.x_tokens.specs.Refusals as refusal
use Rattle.arm_word.specs.Choice.{pick}
use Rattle.arm_state.specs.State.{needed}
use Rattle.arm_word.specs.Ascii.{ascii}
use Rattle.text_lines.specs.Text.{decimal, entry}
use Rattle.text_position.specs.Position.{line_of, column_of, shown_line, caret_line}
use Rattle.text_refusal.specs.Refusal.{reason_of}
use Rattle.text_names.specs.Names.{names_of}
use Rattle.translate_source.specs.declared.Translation.{Translation}
use Rattle.translate_source.specs.Translate.{answered}
use Rattle.text_report.specs.Report.{with_room}

-- ── an accepted source ──

-- "Needed words: D + 2N + 8"
unfoldable pub sizes : Translation → List ℕ
sizes t =
    ascii "accepted\n"
    ++ (entry (ascii "tokens: ") t.tokens
    ++ (entry (ascii "data words: ") t.«data»
    ++ (entry (ascii "needed words: ") (needed t.«data» t.depth)
    ++ entry (ascii "image bytes: ") t.code)))

-- the columns of the names: an empty line before them
abbrev pub names_head : List ℕ
names_head = ascii "\nsort   first  words  name\n"

abbrev pub accepted_text : List ℕ → Translation → List ℕ
accepted_text source t = sizes t ++ (names_head ++ names_of source)

-- ── a refused source ──

-- "1 ... 0", "7 ... 0", "13 ... 0", "14 ... 0": these concern the source as a whole, and show no place
unfoldable pub placeless : ℕ → Bool
placeless n = pick (eqb n refusal.long_source) true (pick (eqb n refusal.deep_program) true (leb refusal.short_table n))

unfoldable pub place_line : List ℕ → ℕ → List ℕ
place_line source place = ascii "refused: line " ++ (decimal (line_of source place) ++ (ascii ", column " ++ (decimal (column_of source place) ++ (10 ∷ []))))

-- line and column, the line, and a caret below the place
abbrev pub place_text : List ℕ → ℕ → List ℕ
place_text source place = place_line source place ++ (shown_line source place ++ caret_line source place)

abbrev pub refused_text : List ℕ → ℕ → ℕ → List ℕ
refused_text source n place = pick (placeless n) (ascii "refused\n") (place_text source place) ++ reason_of source n place

-- ── the whole ──

abbrev pub explained : List ℕ → Translation → List ℕ
explained source t = pick (eqb t.status 0) (accepted_text source t) (refused_text source t.status t.place)

unfoldable pub explain_of : List ℕ → List ℕ
explain_of source = explained source (answered (with_room source))

-- no explanation has more bytes
abbrev pub explain_limit : ℕ
explain_limit = 69888
