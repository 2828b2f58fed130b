-- `arm_encoding::far` meets its contract: the tests are the definition's own.
-- Rests on the definitions that its contract cites; assumes nothing.
use Rattle.arm_encoding.specs.Encoding.{decode_of}
use native.Mathlib.Omega.{arith}
use borrow.Author.Tests.{lt-ltb, le-ltb}
use Rattle.arm_encoding.proofs.far.Goals as goal

pub returns-then-second-lt63488 : goal.returns-then-second-lt63488
unfolding decode_of
returns-then-second-lt63488 c = rw (le-ltb c.args.h 0xF000 (omega arith), lt-ltb c.args.h 0xF800 (omega arith), lt-ltb _ 0xF800 c.if-second-lt63488.true)

pub returns : goal.returns
unfolding decode_of
returns c =
    rw (
      c.widen.ensures,
      le-ltb c.args.h 0xF000 (omega arith),
      lt-ltb c.args.h 0xF800 (omega arith),
      le-ltb _ 0xF800
          c.if-second-lt63488.false,
    )
