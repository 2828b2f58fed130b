-- `front_names_bind::bind` meets its contract. The invariant: what is left of the specifications, by `Going`; the counts are within their limits.
-- Assumes nothing.
use mathlib.Core.Path.{◌≡◌}
use mathlib.Core.List.{List, []}
use Prim.Native.Nat.{ℕ, ◌-◌, ◌≤◌}
use lib.ListN.{length}
use Rattle.x_grammar.specs.Grammar.{Specification, Process, text_process, text_specifications}
use Rattle.x_grammar.specs.TokenArrays.{unread}
use Rattle.front_names_table.specs.Held.{held}
use Rattle.front_names_bind.specs.Going.{Going}
use Rattle.front_names_bind.proofs.bind.Given as goal

abbrev pub invariant-loop-i : goal.invariant-loop-i
invariant-loop-i l =
    (l.so_far.rows ≤ l.names.count) × (l.names.count ≤ 256) × (l.so_far.words ≤ 8192)
    × ((sizes : List ℕ) × (256 ≤ length sizes)
    × ((ds : List Specification) (b : Process) → unread l.tokens.kinds.now l.tokens.values.now 0 ≡ text_specifications ds (text_process b [])
    → l.start ≡ length l.tokens.kinds.now - length (text_process b [])
    → Going l.source l.tokens.kinds.now l.tokens.places.now l.tokens.values.now ds b l.initial.table (held l.names sizes) l.table l.i l.names.count l.so_far.rows l.so_far.words))

abbrev pub decreases-loop-i : goal.decreases-loop-i
decreases-loop-i l = l.start - l.i
