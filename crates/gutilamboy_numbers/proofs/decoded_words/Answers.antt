-- `gutilamboy_numbers::decoded_words` meets its contract: the answers are the definition's, test by test and call by call.
-- Rests on the definitions that its contract cites; assumes nothing.
use mathlib.Core.Path.{sym, ap, ◌∙◌}
use Rattle.gutilamboy_numbers.specs.Numbers.{decoded_words}
use Rattle.gutilamboy_numbers.proofs.decoded_words.Goals as goal

pub returns-in_default : goal.returns-in_default
unfolding decoded_words
returns-in_default c = c.row.ensures ∙ sym (ap decoded_words c.in_default.is)

pub returns : goal.returns
unfolding decoded_words
returns c = c.instruction_words.ensures ∙ sym (ap decoded_words c.in-Some.is)
