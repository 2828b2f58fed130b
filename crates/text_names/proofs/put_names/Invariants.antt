-- The loop's invariant of `text_names::put_names`: before token `i`, what is declared so far is put and remembered. Assumes nothing.
use mathlib.Core.Path.{◌≡◌}
use Prim.Native.Nat.{◌-◌, ◌≤◌}
use lib.ListN.{length}
use Rattle.text_names.specs.NamesSoFar.{tokens_of, words_of}
use Rattle.text_names.specs.Walk.{Walking}
use Rattle.text_names.proofs.put_names.Given as goal

abbrev pub invariant-loop-i : goal.invariant-loop-i
invariant-loop-i l = record {
  room : length l.names ≡ 1024;
  few : l.count ≤ l.i;
  walking : Walking l.source l.tokens.kinds.now l.tokens.places.now l.tokens.values.now l.initial.out l.at (tokens_of l.names) (words_of l.names) l.out l.end l.i l.count l.used;
}

abbrev pub decreases-loop-i : goal.decreases-loop-i
decreases-loop-i l = length l.tokens.kinds.now - l.i
