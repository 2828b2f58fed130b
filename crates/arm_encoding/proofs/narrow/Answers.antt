-- `arm_encoding::narrow` meets its contract: the answers are the definition's, test by test and call by call.
-- Rests on the definitions that its contract cites; assumes nothing.
use Rattle.arm_encoding.specs.Encoding.{narrow}
use borrow.Author.Tests.{lt-ltb, le-ltb}
use native.Mathlib.Omega.{arith}
use Prim.Native.Nat.{◌<◌, ◌≤◌, ◌-◌}
use Rattle.arm_encoding.proofs.narrow.Goals as goal

pub returns-then-d-half : goal.returns-then-d-half
unfolding narrow
returns-then-d-half c = rw (lt-ltb _ _ c.if-d-half.true)

pub returns-then-d-half-2 : goal.returns-then-d-half-2
unfolding narrow
returns-then-d-half-2 c =
    let h = c.args.half in let d = c.args.d in let t : d < 4294967296 - h = omega arith in
    rw (le-ltb d h c.if-d-half.false, lt-ltb d (4294967296 - h) t)

pub returns : goal.returns
unfolding narrow
returns c =
    let h = c.args.half in let d = c.args.d in let t : 4294967296 - h ≤ d = omega arith in
    rw (le-ltb d h c.if-d-half.false, le-ltb d (4294967296 - h) t) (omega arith)
