-- `arm_state::slot_of` meets its contract: the answers are the definition's, test by test; above the base the wrapped difference is the difference.
-- Rests on the definitions that its contract cites; assumes nothing.
use mathlib.Core.Path.{◌≡◌, ◌∙◌}
use Prim.Native.Nat.{◌-◌}
use native.Mathlib.Omega.{arith}
use borrow.Author.Tests.{lt-ltb, le-ltb, le-leb, lt-leb}
use Rattle.arm_state.specs.State.{base}
use Rattle.arm_state.specs.Effects.{slot_of}
use Rattle.arm_state.proofs.slot_of.Goals as goal

pub returns-then-a-lt-DATA_BASE : goal.returns-then-a-lt-DATA_BASE
unfolding slot_of
returns-then-a-lt-DATA_BASE c = rw (lt-leb _ _ c.if-a-lt-DATA_BASE.true)

pub returns-then-i-n : goal.returns-then-i-n
unfolding slot_of
returns-then-i-n c =
    let e : c.sub.result ≡ c.args.a - base = c.sub.ensures ∙ omega arith in
    rw (le-leb _ _ c.if-a-lt-DATA_BASE.false, ← e, lt-ltb _ _ c.if-i-n.true)

pub returns-else-i-n : goal.returns-else-i-n
unfolding slot_of
returns-else-i-n c =
    let e : c.sub.result ≡ c.args.a - base = c.sub.ensures ∙ omega arith in
    rw (le-leb _ _ c.if-a-lt-DATA_BASE.false, ← e, le-ltb _ _ c.if-i-n.false)
