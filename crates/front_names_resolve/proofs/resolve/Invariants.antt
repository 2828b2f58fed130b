-- `front_names_resolve::resolve` meets its contract, by the laws of specs/. Assumes nothing.
use mathlib.Core.Path.{◌≡◌}
use mathlib.Core.List.{List}
use Prim.Native.Nat.{ℕ, ◌-◌}
use Rattle.x_names.specs.Complaints.{fine}
use Rattle.front_names_table.specs.View.{view}
use Rattle.front_names_table.specs.Held.{held}
use Rattle.front_names_resolve.specs.ResolvingWalk.{verdict, walk_of}
use Rattle.front_names_resolve.proofs.resolve.Given as goal

abbrev pub invariant-loop-r : goal.invariant-loop-r
invariant-loop-r l =
    (sizes : List ℕ) → let es = view l.source (held l.names sizes) l.names.count in
    walk_of l.source l.tokens.places.now l.tokens.values.now es (l.end - l.r) l.table l.r (verdict l.least)
    ≡ walk_of l.source l.tokens.places.now l.tokens.values.now es (l.end - l.first) l.initial.table l.first fine
