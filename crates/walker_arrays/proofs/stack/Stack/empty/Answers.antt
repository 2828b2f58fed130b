-- `walker_arrays::stack::Stack::empty` meets its contract.
-- Assumes nothing.
use Rattle.walker_arrays.specs.Stacks.{piled_none}
use Rattle.walker_arrays.proofs.stack.Stack.empty.Goals as goal

pub returns : goal.returns
returns g c = piled_none _
