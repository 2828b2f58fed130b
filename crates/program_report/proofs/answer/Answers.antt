-- `program_report::answer` meets its contract: the line fits the buffer, so that what is written is the report, whole.
-- Assumes nothing.
use Rattle.std.proofs.Common.{◌≡◌, ◌≤◌, length, ℕ, List, ap, ◌∙◌, le_trans}
use Rattle.text_report.specs.Report.{report_of, report_limit}
use Rattle.text_report.specs.ReportLaws.{report_fits}
use Rattle.text_buffer.specs.Buffer.{left, placed}
use Rattle.text_buffer.specs.BufferLaws.{front, Held, held}
use Rattle.program_report.proofs.answer.Goals as goal

whole_report : (source out line out' : List ℕ) (n : ℕ) → report_limit ≤ length out → line ≡ report_of source → left out' n ≡ placed out 0 line → Held out' n (report_of source)
whole_report source out line out' n h e w =
    held out out' n (report_of source) (le_trans (report_fits source) h) (front out out' n (report_of source) (w ∙ ap (placed out 0) e))

pub write-requires : goal.write-requires
write-requires g c = (whole_report _ c.args.text.now _ _ _ c.requires c.report.ensures c.append_line-end.ensures).whole
