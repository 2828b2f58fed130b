-- `walker_arrays::stack::Stack::push` meets its contract.
-- Assumes nothing.
use Rattle.std.proofs.Common.{ap, ◌∙◌, arith, ◌∷◌, length}
use Rattle.walker_arrays.specs.Stacks.{piled_length, piled_more}
use Rattle.walker_arrays.proofs.stack.Stack.push.Goals as goal

pub returns-then-self : goal.returns-then-self
returns-then-self g c =
    let f = c.self.inside in
    record {
      room = λ _. piled_more f.values c.args.value f.height (omega arith) ∙ ap (λ s. c.args.value ∷ s) c.self.view_is;
      full = λ h. absurd (omega (arith, h, piled_length f.values f.height (omega arith), ap length c.self.view_is));
    }

pub returns-else-self : goal.returns-else-self
returns-else-self g c =
    let f = c.self.inside in
    record {
      room = λ h. absurd (omega (arith, h, piled_length f.values f.height (omega arith), ap length c.self.view_is));
      full = λ _ i. c.args.self.now;
    }
