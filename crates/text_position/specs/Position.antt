-- Where a place of a source stands, and how its line is shown. Definitions; assumes nothing.
-- LF ends a line; every other byte, CR too, is a column. The place after the last byte is a place; one past it counts as that.
use Rattle.std.specs.Prelude.{ℕ, suc, ◌+◌, ◌-◌, List, [], ◌∷◌, ◌++◌, map, eqb, ltb, length, take, drop, replicate}
use Rattle.arm_word.specs.Choice.{pick}

-- ── line and column ──

abbrev pub line_feed : ℕ
line_feed = 10

-- how many line feeds a byte is
unfoldable pub feed : ℕ → ℕ
feed b = pick (eqb b line_feed) 1 0

-- how many line feeds there are
unfoldable pub feeds : List ℕ → ℕ
feeds [] = 0
feeds (b ∷ bs) = feed b + feeds bs

-- one byte further on: how many bytes stand after the last line feed, if it was n
unfoldable pub onward : ℕ → ℕ → ℕ
onward n b = pick (eqb b line_feed) 0 (n + 1)

-- how many bytes stand after the last line feed, if it is n before these
unfoldable pub since : List ℕ → ℕ → ℕ
since [] n = n
since (b ∷ bs) n = since bs (onward n b)

-- how many bytes stand before the first line feed
unfoldable pub until : List ℕ → ℕ
until [] = 0
until (b ∷ bs) = pick (eqb b line_feed) 0 (suc (until bs))

-- the bytes of the place's line before the place, and from it on
abbrev pub left_of : List ℕ → ℕ → ℕ
left_of source place = since (take place source) 0

abbrev pub right_of : List ℕ → ℕ → ℕ
right_of source place = until (drop place source)

-- lines and columns count from 1
abbrev pub line_of : List ℕ → ℕ → ℕ
line_of source place = feeds (take place source) + 1

abbrev pub column_of : List ℕ → ℕ → ℕ
column_of source place = left_of source place + 1

-- ── the line as it is shown ──

-- where the line starts
abbrev pub start_of : List ℕ → ℕ → ℕ
start_of source place = length (take place source) - left_of source place

-- the line, without its line feed
abbrev pub line_bytes : List ℕ → ℕ → List ℕ
line_bytes source place = take (left_of source place + right_of source place) (drop (start_of source place) source)

-- so many columns are shown
abbrev pub width : ℕ
width = 72

-- a place that lies further right has this many columns left of it
abbrev pub half_width : ℕ
half_width = 36

-- how many columns are cut off at the left, for a place with so many bytes left of it
unfoldable pub cut : ℕ → ℕ
cut left = pick (ltb left width) 0 (left - half_width)

-- tab and CR as a space, what a terminal can't show as `?`
unfoldable pub shown : ℕ → ℕ
shown b = pick (eqb b 9) 32 (pick (eqb b 13) 32 (pick (ltb b 32) 63 (pick (ltb 126 b) 63 b)))

-- the part of the line that is shown, and a line feed
unfoldable pub shown_line : List ℕ → ℕ → List ℕ
shown_line source place = map shown (take width (drop (cut (left_of source place)) (line_bytes source place))) ++ (line_feed ∷ [])

abbrev pub spaces : ℕ → List ℕ
spaces n = replicate n 32

-- a `^` below the place's column, and a line feed
unfoldable pub caret_line : List ℕ → ℕ → List ℕ
caret_line source place = spaces (left_of source place - cut (left_of source place)) ++ (94 ∷ line_feed ∷ [])
