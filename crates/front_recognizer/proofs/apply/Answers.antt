-- `front_recognizer::apply` meets its contract, by the laws of specs/Stack.
use Rattle.front_recognizer.specs.Stack.{act_kept, act_pushed, popped_fits}
use native.Mathlib.Omega.{arith}
use Rattle.front_recognizer.proofs.apply.Goals as goal

pub returns-in-Some : goal.returns-in-Some
returns-in-Some c = (
  act_pushed c.args.table.now _ c.args.height _ c.args.a _ c.in-Some.is c.popped-h.ensures (omega arith) c.requires (rw c.from.ensures at c.put.ensures),
  omega (arith, popped_fits _ _ c.args.a.pops c.popped-h.ensures c.requires),
)

pub returns-in_default : goal.returns-in_default
returns-in_default c = (
  rw c.popped-h.ensures (act_kept c.args.table.now c.args.height c.args.a c.in_default.is),
  omega (arith, popped_fits _ _ c.args.a.pops c.popped-h.ensures c.requires),
)
