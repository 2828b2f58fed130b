-- `walker_arrays::stack::Stack::last` meets its contract.
-- Assumes nothing.
use Rattle.std.proofs.Common.{arith}
use Rattle.walker_arrays.specs.Stacks.{piled_empty, piled_last}
use Rattle.walker_arrays.proofs.stack.Stack.last.Goals as goal

pub returns-then-self-eq0 : goal.returns-then-self-eq0
returns-then-self-eq0 g c = rw (piled_empty _ _ c.if-self-eq0.true c.self.view_is)

pub returns : goal.returns
returns g c = let f = c.self.inside in rw (piled_last f.values f.height c.index-self-self.result c.if-self-eq0.false (omega arith) c.self.view_is)
