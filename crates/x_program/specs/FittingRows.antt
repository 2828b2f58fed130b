-- What `ValidTable` tests, as what is so: a word that fits, a row's words, a table that can be run. Definitions.
use Rattle.std.specs.Prelude.{◌≡◌, true, List, ℕ, ◌-◌, ◌*◌, ◌≤◌, ◌<◌, length}
use Rattle.x_program.specs.Layout.{row_words}
use Rattle.x_program.specs.Layout as layout
use Rattle.x_program.specs.Table.{word}
use Rattle.x_program.specs.ValidTable.{shape, data_before, row_fits, rows_in, data_in}
use Rattle.x_program.specs.declared.Field.{Field}
use Rattle.x_program.specs.declared.Field.TheVariants.{Unknown, Variable, Array, Value, Process, Monadic, Diadic, Offset, One, Length, Word, Unused}

-- row s stands before row r, and its kind is from `low` to `high`
pub record Earlier (low high : ℕ) (t : List ℕ) (r s : ℕ) : Type 0 where
  pub earlier : s < r
  pub from : low ≤ word t s 0
  pub to : word t s 0 ≤ high

-- what a word that fits is
abbrev pub Fit : List ℕ → ℕ → Field → ℕ → Type 0
Fit t r Unknown w = ⊥
Fit t r Variable w = Earlier layout.var layout.var t r w
Fit t r Array w = Earlier layout.array layout.array t r w
Fit t r Value w = Earlier layout.number layout.diadic t r w
Fit t r Process w = Earlier layout.skip layout.while t r w
Fit t r Monadic w = (1 ≤ w) × (w ≤ 2)
Fit t r Diadic w = (1 ≤ w) × (w ≤ 14)
Fit t r Offset w = w ≡ data_before t r
Fit t r One w = w ≡ 1
Fit t r Length w = (1 ≤ w) × (w ≤ 8192)
Fit t r Word w = Unit {0}
Fit t r Unused w = w ≡ 0

-- the three words of a row of kind k that fits
abbrev pub Fitting : List ℕ → ℕ → ℕ → Type 0
Fitting t r k = let s = shape k in Fit t r s.a (word t r 1) × Fit t r s.b (word t r 2) × Fit t r s.c (word t r 3)

-- a table that 36 doesn't refuse
pub record Valid (t : List ℕ) : Type 0 where
  -- whole rows, at most 1,024
  pub whole : length t ≡ row_words * rows_in t
  pub few : rows_in t ≤ 1024
  pub fitting : (r : ℕ) → r < rows_in t → row_fits t r ≡ true
  pub small : data_in t ≤ 8192
  -- the last is a process
  pub some : 0 < rows_in t
  pub from : layout.skip ≤ word t (rows_in t - 1) 0
  pub to : word t (rows_in t - 1) 0 ≤ layout.while
