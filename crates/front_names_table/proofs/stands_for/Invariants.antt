-- `front_names_table::stands_for` meets its contract. The invariant: the name stands for what it stands for among the first k names.
-- Assumes nothing.
use mathlib.Core.Path.{◌≡◌}
use mathlib.Core.List.{List}
use Prim.Native.Nat.{ℕ}
use Rattle.x_names.specs.Scope.{lookup}
use Rattle.front_names_table.specs.View.{text, view, arrays}
use Rattle.front_names_table.proofs.stands_for.Given as goal

abbrev pub invariant-loop-k : goal.invariant-loop-k
invariant-loop-k l =
    (sizes : List ℕ) → let t = arrays l.name_places l.name_lengths l.name_rows l.sorts l.words sizes in
    lookup (view l.source t l.count) (text l.source l.p l.n) ≡ lookup (view l.source t l.k) (text l.source l.p l.n)
