-- `program_explain::answer` meets its contract: the text fits the buffer, so that what is written is the explanation, whole.
-- Assumes nothing.
use Rattle.std.proofs.Common.{◌≡◌, ◌≤◌, length, min, ℕ, List, le_trans}
use Rattle.text_explain.specs.Explain.{explain_of, explain_limit}
use Rattle.text_explain.specs.ExplainLaws.{explain_fits}
use Rattle.text_buffer.specs.Buffer.{overwritten}
use Rattle.text_buffer.specs.BufferLaws.{Held, held}
use Rattle.program_explain.proofs.answer.Goals as goal

whole_text : (source out out' : List ℕ) (n : ℕ) →
    explain_limit ≤ length out →
    (n ≡ min (length (explain_of source)) (length out)) × (out' ≡ overwritten out (explain_of source)) →
    Held out' n (explain_of source)
whole_text source out out' n h = held out out' n (explain_of source) (le_trans (explain_fits source) h)

pub write-requires : goal.write-requires
write-requires g c = (whole_text _ c.args.text.now _ _ c.requires c.explain-end.ensures).whole
