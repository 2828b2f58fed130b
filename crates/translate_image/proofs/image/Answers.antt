-- `translate_image::image` meets its contract: the process, then SVC 0.
-- Assumes nothing.
use Rattle.std.proofs.Common.{rules, ◌∙◌}
use Rattle.translate_rules.specs.ImageCode.{image_code}
use Rattle.translate_emit_instructions.specs.Write.{first, left, and}
use Rattle.translate_image.proofs.image.Goals as goal

pub process-requires : goal.process-requires
unfolding image_code
process-requires c = (c.requires.1.0, rw (c.new-out.ensures.whole.0, c.new-out.ensures.whole.1) (first _ c.requires.1.1))

pub put-requires : goal.put-requires
unfolding image_code
put-requires c = left c.process.ensures (rw (c.new-out.ensures.whole.0, c.new-out.ensures.whole.1) c.requires.1.1)

-- the buffer is the one that was lent, so it ends as the writer leaves it
pub returns : goal.returns
unfolding image_code
returns c =
    let same = c.put.ensures.same ∙ (c.process.ensures.same ∙ c.new-out.ensures.same) in
    let x = rw (c.new-out.ensures.whole.0, c.new-out.ensures.whole.1) at (and c.process.ensures c.put.ensures).wrote in
    search rules
