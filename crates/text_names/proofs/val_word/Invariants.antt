-- The loop's invariant of `text_names::val_word`: the name's word is the one among the first k names. Assumes nothing.
use mathlib.Core.Path.{◌≡◌}
use lib.ListN.{length}
use Rattle.front_names_table.specs.View.{text_at}
use Rattle.text_names.specs.NamesSoFar.{tokens_of, words_of}
use Rattle.text_names.specs.Walk.{found}
use Rattle.text_names.proofs.val_word.Given as goal

abbrev pub invariant-loop-k : goal.invariant-loop-k
invariant-loop-k l = found l.source l.tokens.places.now l.tokens.values.now (tokens_of l.names) (words_of l.names) (length l.names) (text_at l.source l.tokens.places.now l.tokens.values.now l.t)
    ≡ found l.source l.tokens.places.now l.tokens.values.now (tokens_of l.names) (words_of l.names) l.k (text_at l.source l.tokens.places.now l.tokens.values.now l.t)
