-- `front_recognizer::recognize` meets its contract. The invariant (`Stands`): the automaton's state at token i is the configuration of control and table, and the tree so far nests within 32, or
-- is too deep where `deep` says so.
use mathlib.Core.List.{List}
use Prim.Native.Nat.{ℕ, ◌≤◌}
use Rattle.front_recognizer.specs.Stack.{viewed}
use Rattle.front_recognizer.specs.Recognized.{Stands}
use Rattle.front_recognizer.proofs.recognize.Given as goal

abbrev pub invariant-loop-i : goal.invariant-loop-i
invariant-loop-i l = (l.c.height ≤ l.i) × ((values : List ℕ) → Stands l.kinds values l.i (viewed l.table l.c) l.deep)
