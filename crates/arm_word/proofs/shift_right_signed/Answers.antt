-- `arm_word::shift_right_signed` meets its contract: of a negative word the complement is shifted and complemented again.
-- Rests on the definitions that its contract cites; assumes nothing.
use Rattle.std.proofs.Common.{◌∙◌, le-ltb, lt-ltb}
use Rattle.arm_word.specs.Word.{shift_right_signed}
use Rattle.arm_word.proofs.shift_right_signed.Goals as goal

pub returns-then-a-lt2147483648 : goal.returns-then-a-lt2147483648
unfolding shift_right_signed
returns-then-a-lt2147483648 c = c.shift_right.ensures ∙ rw (lt-ltb _ _ c.if-a-lt2147483648.true)

pub returns : goal.returns
unfolding shift_right_signed
returns c = rw (c.complement-2.ensures, c.shift_right-2.ensures, c.complement.ensures, le-ltb _ _ c.if-a-lt2147483648.false)
