-- `text_lines::Line::long_decimal` calls itself on a smaller number.
use Rattle.text_lines.proofs.Line.+long_decimal.Given as goal

abbrev pub decreases-long_decimal : goal.decreases-long_decimal
decreases-long_decimal l = l.n
