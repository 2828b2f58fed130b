-- The sorts of names, by number: what is declared has the sort of its row's kind, and a val, which makes no row, one of its own. Definitions.
use Rattle.std.specs.Prelude.{ℕ}
use Rattle.x_program.specs.Layout as layout
use Rattle.front_names_table.specs.declared.Sort.{Sort}
use Rattle.front_names_table.specs.declared.Sort.TheVariants.{Undeclared, Var, Array, Val}

abbrev pub undeclared : ℕ
undeclared = 0

abbrev pub var : ℕ
var = layout.var

abbrev pub array : ℕ
array = layout.array

abbrev pub val : ℕ
val = 3

-- the number of the code's sort
abbrev pub number : Sort → ℕ
number Undeclared = undeclared
number Var = var
number Array = array
number Val = val
