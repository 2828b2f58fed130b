-- `translate_buffers::clear` meets its contract: a turn clears one cell more (`cleared_more`), and after the last all are (`cleared_all`). Assumes nothing.
use Rattle.std.proofs.Common.{arith, sym, ◌∙◌, length-set}
use Rattle.translate_buffers.specs.Buffers.{cleared, cleared_more, cleared_all}
use Rattle.translate_buffers.proofs.clear.Goals as goal

pub loop-i-preserved : goal.loop-i-preserved
loop-i-preserved g c =
    let v = c.loop-i.invariant in
    (simp length-set v.0, cleared_more _ c.loop-i.cells c.loop-i.i _ (omega arith) v.0 ∙ v.1)

pub returns : goal.returns
unfolding cleared
returns g c =
    let v = c.loop-i.invariant in
    (c.from-zero.result, c.from-zero.ensures, sym (cleared_all _ c.loop-i.cells c.loop-i.i _ (omega arith) v.0) ∙ v.1)
