-- A text in a lent buffer: what is cut, what stays, and where the next text goes. Definitions; assumes nothing.
use Rattle.std.specs.Prelude.{List, ◌++◌, ℕ, ◌+◌, min, max, length, take, drop}
use Rattle.std.proofs.lemmas.List.Edits.{sets}

-- a buffer, and the place after what was put into it
pub record Placed : Type 0 where
  pub bytes : List ℕ
  pub end : ℕ

abbrev pub left : List ℕ → ℕ → Placed
left out end = record { bytes = out; end = end }

-- a text from a place on: what does not fit is left out, all other bytes stay; the next text goes behind what was put
abbrev pub placed : List ℕ → ℕ → List ℕ → Placed
placed out at text = left (sets out at text) (max at (min (at + length text) (length out)))

-- a text at the front: its first bytes, cut at the buffer's length, and behind them the old ones
abbrev pub overwritten : List ℕ → List ℕ → List ℕ
overwritten out text = take (length out) text ++ drop (length text) out
