-- What the translation of a source answers and leaves in the two lent buffers. Definitions; rests on the front end and the rules.
use Rattle.std.specs.Prelude.{List, ◌++◌, ℕ, ◌-◌, length, replicate}
use Rattle.x_program.specs.Tree.{Program, data_words}
use Rattle.x_program.specs.ProgramDepth.{deepest}
use Rattle.x_program.specs.Rows.{table_of, row_count}
use Rattle.x_verdict.specs.Front.{Outcome, refused, accepted, front}
use Rattle.translate_rules.specs.ImageCode.{image}
use Rattle.translate_source.specs.declared.Translation.{Translation}

-- the answer, the table's words and the code buffer's bytes after the call
pub record Translated : Type 0 where
  pub answer : Translation
  pub table : List ℕ
  pub code : List ℕ

-- the answer with what the call leaves in the buffers
abbrev pub left : Translation → List ℕ → List ℕ → Translated
left answer table code = record { answer = answer; table = table; code = code }

-- so many zeros
abbrev pub zeros : ℕ → List ℕ
zeros n = replicate n 0

-- a buffer of so many cells that begins with these: "An accepted call zeroes what lies past the table and past the image"
abbrev pub filled : ℕ → List ℕ → List ℕ
filled size xs = xs ++ zeros (size - length xs)

-- Limits and refusals: "Status 0, place 0 is accepted"; of a refusal "its counts are all 0"
abbrev pub answered : Outcome → Translation
answered (refused n p) = record { status = n; place = p; tokens = 0; rows = 0; «data» = 0; depth = 0; code = 0 }
answered (accepted n p) =
    record { status = 0; place = 0; tokens = n; rows = row_count p; «data» = data_words p.declarations; depth = deepest p.body; code = length (image p) }

-- request 2026-06, of each of the two buffers: "a refusal changes neither buffer; an accepted call zeroes the rest as before"
abbrev pub kept_or_filled : List ℕ → (Program → List ℕ) → Outcome → List ℕ
kept_or_filled old contents (refused n p) = old
kept_or_filled old contents (accepted n p) = filled (length old) (contents p)

-- the answer and both buffers after the call, from what these held before
abbrev pub translated : List ℕ → List ℕ → Outcome → Translated
translated table code o = left (answered o) (kept_or_filled table table_of o) (kept_or_filled code image o)

-- a source, the words that the table holds before the call and the bytes that the code buffer does
unfoldable pub translation : List ℕ → List ℕ → List ℕ → Translated
translation source table code = translated table code (front source (length table) (length code))
