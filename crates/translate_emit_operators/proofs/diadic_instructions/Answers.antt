-- `translate_emit_operators::diadic_instructions` meets its contract: the last arm's operator is the one that is left (`last_operator`). Assumes nothing.
use Rattle.std.proofs.Common.{rules}
use Rattle.translate_emit_operators.specs.OperatorNumbers.{last_operator}
use Rattle.translate_emit_operators.proofs.diadic_instructions.Goals as goal

pub not_less_than-requires-in_default : goal.not_less_than-requires-in_default
not_less_than-requires-in_default c = rw (last_operator c.args.o (search rules)) at c.requires

pub returns-in_default : goal.returns-in_default
returns-in_default c = rw (last_operator c.args.o (search rules)) c.not_less_than-in_default.ensures
