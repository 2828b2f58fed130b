-- The measure is twice the unread tokens, and one more for expression and chain, which call operand at the same token.
use Rattle.std.proofs.Common.{◌+◌, ◌-◌, ◌*◌, length}
use Rattle.front_read_expressions.proofs.+chain_expression_operand.Given as goal

abbrev pub decreases-chain : goal.decreases-chain
decreases-chain l = 2 * (length l.tokens.kinds.now - l.i) + 1

abbrev pub decreases-expression : goal.decreases-expression
decreases-expression l = 2 * (length l.tokens.kinds.now - l.i) + 1

abbrev pub decreases-operand : goal.decreases-operand
decreases-operand l = 2 * (length l.tokens.kinds.now - l.i)
