-- What the check of a table answers, and the same by the words that the code has read. Definitions; rests on x_program's ValidTable.
use Rattle.std.specs.Prelude.{Bool, ◌&&◌, List, ℕ, ◌-◌, ltb, Option, Some, None}
use Rattle.arm_word.specs.Choice.{pick}
use Rattle.arm_word.specs.Ranges.{from_to}
use Rattle.x_program.specs.Layout as layout
use Rattle.x_program.specs.Table.{word}
use Rattle.x_program.specs.ValidTable.{shape, data_before, fits, rows_fit, data_in, valid}
use Rattle.x_program.specs.declared.table.Row.{Row}

-- what the check answers: 36, or the words of data that the run is over
unfoldable pub checked : List ℕ → Option ℕ
checked t = pick (valid t) (Some (data_in t)) None

-- ── by the words that were read ──

abbrev pub words_fit : List ℕ → ℕ → ℕ → Row → Bool
words_fit t r before w = let s = shape w.kind in fits t r before s.a w.a && (fits t r before s.b w.b && fits t r before s.c w.c)

abbrev pub words_of : Row → ℕ
words_of w = pick (from_to layout.var layout.array w.kind) w.b 0

-- the first n rows
unfoldable pub counted : List ℕ → ℕ → Option ℕ
counted t n = pick (rows_fit t n) (Some (data_before t n)) None

abbrev pub ends_in_process : List ℕ → ℕ → Bool
ends_in_process t n = ltb 0 n && from_to layout.skip layout.while (word t (n - 1) 0)
