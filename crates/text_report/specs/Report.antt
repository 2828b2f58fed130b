-- The report of a source, whole. Definitions; rests on the translation's answer and the seven lines.
use Rattle.std.specs.Prelude.{List, ℕ}
use Rattle.x_program.specs.Layout.{table_room, code_room}
use Rattle.text_lines.specs.Text.{summary}
use Rattle.translate_source.specs.declared.Translation.{Translation}
use Rattle.x_verdict.specs.Front.{Outcome, front}
use Rattle.translate_source.specs.Translate.{answered}

-- Limits and refusals: "4 x tokens words" and "48 x tokens + 256 bytes" for 1,024 tokens, the most that a source may have: 13 and 14 never show
abbrev pub table_words : ℕ
table_words = table_room 1024

abbrev pub code_bytes : ℕ
code_bytes = code_room 1024

-- what becomes of a source in that room: what report, listing and explanation are of
abbrev pub with_room : List ℕ → Outcome
with_room source = front source table_words code_bytes

-- The report program: "data= being D, depth= the deepest N, code= the image's bytes"
abbrev pub answer_lines : Translation → List ℕ
answer_lines t = summary t.status t.place t.tokens t.rows t.«data» t.depth t.code

-- "It reads a source ... and writes lines in this order"
unfoldable pub report_of : List ℕ → List ℕ
report_of source = answer_lines (answered (with_room source))

-- no report has more bytes
abbrev pub report_limit : ℕ
report_limit = 128
