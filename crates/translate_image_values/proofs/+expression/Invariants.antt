-- `translate_image_values::expression` calls itself on earlier rows.
use Rattle.translate_image_values.proofs.+expression.Given as goal

abbrev pub decreases-expression : goal.decreases-expression
decreases-expression l = l.r
