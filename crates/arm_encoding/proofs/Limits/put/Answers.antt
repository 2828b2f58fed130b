-- `arm_encoding::Limits::put` meets its contract: fields in range are digits below their limits, so the sum stays inside the form.
-- Rests on the definitions that its contract cites; assumes nothing.
use Rattle.arm_encoding.specs.Encoding.{form, put}
use borrow.Author.Tests.{lt-ltb, le-ltb}
use mathlib.Core.Path.{sym}
use Rattle.arm_encoding.specs.Fields.{put_one}
use Rattle.arm_encoding.proofs.Limits.put.Goals as goal

pub returns-then-a-self : goal.returns-then-a-self
unfolding put
returns-then-a-self c = simp (le-ltb _ _ c.if-a-self.true)

pub returns-then-b-self : goal.returns-then-b-self
unfolding put
returns-then-b-self c = simp (lt-ltb _ _ c.if-a-self.false, le-ltb _ _ c.if-b-self.true)

pub returns-then-c-self : goal.returns-then-c-self
unfolding put
returns-then-c-self c = simp (lt-ltb _ _ c.if-a-self.false, lt-ltb _ _ c.if-b-self.false, le-ltb _ _ c.if-c-self.true)

pub returns : goal.returns
returns c = sym (put_one (form c.args.self.base c.args.self.high c.args.self.middle c.args.self.low) _ _ _ c.if-a-self.false c.if-b-self.false c.if-c-self.false)
