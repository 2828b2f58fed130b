-- `text_position::cut` meets its contract, by its test.
-- Assumes nothing.
use mathlib.Core.Path.{refl}
use native.Mathlib.Omega.{arith}
use borrow.Author.Tests.{lt-ltb, le-ltb}
use Rattle.arm_word.specs.ChoiceLaws.{pick_t, pick_f}
use Rattle.text_position.specs.Position as spec
use Rattle.text_position.proofs.cut.Goals as goal

pub returns-then-left-lt-WIDTH : goal.returns-then-left-lt-WIDTH
unfolding spec.cut
returns-then-left-lt-WIDTH c = (pick_t _ _ _ _ (lt-ltb _ _ c.if-left-lt-WIDTH.true) refl, omega arith)

pub returns-else-left-lt-WIDTH : goal.returns-else-left-lt-WIDTH
unfolding spec.cut
returns-else-left-lt-WIDTH c = (pick_f _ _ _ _ (le-ltb _ _ c.if-left-lt-WIDTH.false) refl, omega arith)
