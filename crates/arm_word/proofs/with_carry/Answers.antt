-- `arm_word::with_carry` meets its contract: the signs tell the overflow (`overflow_signs`), and 2 ^ 32 the carry (`carry_integers`).
-- Rests on the definitions that its contract cites; assumes nothing.
use Rattle.std.proofs.Common.{arith}
use Rattle.arm_word.specs.CarryLaws.{carry_integers, overflow_signs}
use Rattle.arm_word.proofs.with_carry.Goals as goal

pub returns : goal.returns
returns c =
    let x = c.args in
    rw (
      carry_integers x.x x.y x.carry (omega arith) (omega arith),
      overflow_signs x.x x.y x.carry (omega arith) (omega arith),
      c.signs_differ.ensures,
      c.bit.ensures.0,
    )
