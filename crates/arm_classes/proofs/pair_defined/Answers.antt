-- `arm_classes::pair_defined` meets its contract: its calls' answers, put together as in the definition.
-- Rests on the definitions that its contract cites; assumes nothing.
use Rattle.arm_classes.specs.Classes.{pair_defined}
use Rattle.arm_classes.proofs.pair_defined.Goals as goal

pub returns : goal.returns
unfolding pair_defined
returns c = rw (c.mrs.ensures, c.msr.ensures, c.barrier.ensures, c.far_call.ensures)
