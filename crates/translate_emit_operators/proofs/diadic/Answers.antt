-- `translate_emit_operators::diadic` meets its contract: there is room for each part (`first`, `left`), and together they wrote the whole (`and`).
-- Assumes nothing.
use Rattle.translate_emit_instructions.specs.Write.{first, left, and}
use Rattle.translate_rules.specs.Blocks.{work_diadic_code}
use Rattle.translate_emit_operators.proofs.diadic.Goals as goal

pub put_all-requires : goal.put_all-requires
unfolding work_diadic_code
put_all-requires c = first _ c.requires

pub diadic_instructions-requires : goal.diadic_instructions-requires
unfolding work_diadic_code
diadic_instructions-requires c = first _ (left c.put_all.ensures c.requires)

pub put-requires : goal.put-requires
unfolding work_diadic_code
put-requires c = left c.diadic_instructions.ensures (left c.put_all.ensures c.requires)

pub returns : goal.returns
unfolding work_diadic_code
returns c = and c.put_all.ensures (and c.diadic_instructions.ensures c.put.ensures)
