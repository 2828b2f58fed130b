-- `text_report::report` meets its contract: the lines are those of what the translation into the two arrays answered.
-- Assumes nothing.
use mathlib.Core.Path.{◌∙◌}
use Rattle.text_report.specs.ReportLaws.{reported}
use Rattle.text_report.proofs.report.Goals as goal

pub returns : goal.returns
returns c = c.answer_lines.ensures ∙ reported _ _ _ _ c.translate.ensures
