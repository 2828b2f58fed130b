-- `walker_arrays::stack::Stack::pop` meets its contract.
-- Assumes nothing.
use Rattle.std.proofs.Common.{◌-◌, arith}
use Rattle.walker_arrays.specs.Stacks.{piled_empty, piled_last, piled_length}
use Rattle.walker_arrays.proofs.stack.Stack.pop.Goals as goal

pub returns-then-self-eq0 : goal.returns-then-self-eq0
returns-then-self-eq0 g c = let e = piled_empty _ _ c.if-self-eq0.true c.self.view_is in record { value = rw e; rest = rw e; room = λ h. rw e h }

pub returns : goal.returns
returns g c =
    let f = c.self.inside in
    let e = piled_last f.values f.height c.index-self-self.result c.if-self-eq0.false (omega arith) c.self.view_is in
    record {
      value = rw e;
      rest = rw e;
      room = λ h. omega (arith, piled_length f.values (f.height - 1) (omega arith), c.if-self-eq0.false);
    }
