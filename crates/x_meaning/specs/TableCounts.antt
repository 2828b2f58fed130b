-- What a walk counts: the accesses that are made or still to be made. Definitions.
use mathlib.Core.List.{List, [], ◌∷◌}
use Prim.Native.Nat.{ℕ, suc, ◌+◌}
use Rattle.std.proofs.Math.ListN.{length}
use Rattle.x_meaning.specs.TableRun.{Item, begin, work₁, work₂, check, load, set_variable, store, choose, repeat, State}

-- the accesses that are still to be made by rows that were begun
abbrev pub pending : List Item → ℕ
pending [] = 0
pending (begin r ∷ c) = pending c
pending (work₁ r ∷ c) = pending c
pending (work₂ r ∷ c) = pending c
pending (check r ∷ c) = pending c
pending (load r ∷ c) = suc (pending c)
pending (set_variable r ∷ c) = pending c
pending (store r ∷ c) = suc (pending c)
pending (choose r ∷ c) = pending c
pending (repeat r ∷ c) = pending c

-- made or still to be made
abbrev pub due : State → ℕ
due x = length x.trace + pending x.continuation
