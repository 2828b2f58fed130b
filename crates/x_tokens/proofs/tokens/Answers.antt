-- `x_tokens::tokens` meets its contract. Each way through the code makes the same choices as the definition.
-- Assumes nothing.
use Rattle.x_tokens.specs.TokenLaws.{outcome_long}
use Rattle.x_tokens.proofs.tokens.Goals as goal

pub returns-then-source-gt16384 : goal.returns-then-source-gt16384
returns-then-source-gt16384 c = record { source_value = outcome_long c.args.source.now c.if-source-gt16384.true; few = tt }
