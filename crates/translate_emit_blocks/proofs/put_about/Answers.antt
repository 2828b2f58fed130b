-- `translate_emit_blocks::put_about` meets its contract: there is room for each part (`first`, `left`), and together they wrote the whole (`and`).
-- Assumes nothing.
use Rattle.translate_emit_instructions.specs.Write.{first, left, and}
use Rattle.translate_emit_blocks.proofs.put_about.Goals as goal

pub put_all-requires : goal.put_all-requires
put_all-requires c = first _ c.requires

pub constant-requires : goal.constant-requires
constant-requires c = first _ (left c.put_all.ensures c.requires)

pub put_all-requires-2 : goal.put_all-requires-2
put_all-requires-2 c = left c.constant.ensures (left c.put_all.ensures c.requires)

pub returns : goal.returns
returns c = and c.put_all.ensures (and c.constant.ensures c.put_all-2.ensures)
