-- `arm_classes::classify` meets its contract: by whether the halfwords are defined.
-- Rests on the definitions that its contract cites; assumes nothing.
use mathlib.Core.Path.{sym, ◌∙◌}
use Rattle.arm_classes.specs.Classes.{classify_of}
use Rattle.arm_classes.proofs.classify.Goals as goal

pub returns-then-defined : goal.returns-then-defined
unfolding classify_of
returns-then-defined c = rw (c.class_of.ensures, sym c.defined.ensures ∙ c.if-defined.true)

pub returns : goal.returns
unfolding classify_of
returns c = rw (sym c.defined.ensures ∙ c.if-defined.false)
