-- The code's name table as a table of View. Definitions.
use mathlib.Core.List.{List}
use Prim.Native.Nat.{ℕ}
use Rattle.front_names_table.specs.View.{Table, arrays}
use Rattle.front_names_table.specs.declared.Names.{Names}

-- with the names' sizes, which the code doesn't keep
abbrev pub held : {N : ℕ} → Names N → List ℕ → Table
held n sizes = arrays n.places n.lengths n.rows n.sorts n.words sizes
