-- The syntax table's layout: how many words a row has, the kinds of rows by number, and the room that document 01 asks for. Definitions.
-- The operators' numbers are in Rows.
use Rattle.std.specs.Prelude.{ℕ, ◌+◌, ◌*◌}

-- "Rows of four words (kind, a, b, c)"
abbrev pub row_words : ℕ
row_words = 4

-- "4 x tokens words"
abbrev pub table_room : ℕ → ℕ
table_room tokens = row_words * tokens

-- "48 x tokens + 256 bytes"
abbrev pub code_room : ℕ → ℕ
code_room tokens = 48 * tokens + 256

-- declarations: var (word offset, 1), array (offset, length)
abbrev pub var : ℕ
var = 1

abbrev pub array : ℕ
array = 2

-- expressions: number (word), variable (its row), element (array row, subscript row), monadic (operator, row), diadic (operator, left, right)
abbrev pub number : ℕ
number = 3

abbrev pub variable : ℕ
variable = 4

abbrev pub element : ℕ
element = 5

abbrev pub monadic : ℕ
monadic = 6

abbrev pub diadic : ℕ
diadic = 7

-- processes: skip, stop, assign (var row, value), assign element (array row, subscript, value), two in sequence, if (condition, then, else), while (condition, body)
abbrev pub skip : ℕ
skip = 8

abbrev pub stop : ℕ
stop = 9

abbrev pub assign : ℕ
assign = 10

abbrev pub assign_element : ℕ
assign_element = 11

abbrev pub sequence : ℕ
sequence = 12

abbrev pub if : ℕ
if = 13

abbrev pub while : ℕ
while = 14
