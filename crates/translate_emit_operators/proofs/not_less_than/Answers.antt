-- `translate_emit_operators::not_less_than` meets its contract: there is room for each part (`first`, `left`), and together they wrote the whole (`and`).
-- Assumes nothing.
use Rattle.translate_emit_instructions.specs.Write.{first, left, and}
use Rattle.translate_emit_operators.proofs.not_less_than.Goals as goal

pub less_than-requires : goal.less_than-requires
less_than-requires c = first _ c.requires

pub put-requires : goal.put-requires
put-requires c = left c.less_than.ensures c.requires

pub returns : goal.returns
returns c = and c.less_than.ensures c.put.ensures
