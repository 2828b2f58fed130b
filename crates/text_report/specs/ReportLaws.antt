-- The lines of what a translation into zeroed arrays of the report's lengths answers are the report, which fits in a line. Laws; assumes nothing.
use Rattle.std.specs.Prelude.{◌≡◌, List, ℕ, ◌≤◌, length}
use Rattle.std.proofs.Math.Path.{ap}
use Rattle.std.proofs.Common.{◌∙◌, arith, length-take}
use Rattle.std.proofs.lemmas.List.{length-replicate}
use Rattle.text_lines.specs.LineLaws.{summary_fits}
use Rattle.x_verdict.specs.Front.{Outcome, front}
use Rattle.translate_source.specs.declared.Translation.{Translation}
use Rattle.translate_source.specs.Translate.{Translated, left, zeros, answered, translated, translation}
use Rattle.text_report.specs.Report.{table_words, code_bytes, with_room, answer_lines, report_of, report_limit}

-- what a translation into arrays of the report's lengths, all zero before, answers and leaves, by its outcome
abbrev pub in_arrays : Outcome → Translated
in_arrays o = translated (zeros table_words) (zeros code_bytes) o

module _ (source table code : List ℕ) (t : Translation) (h : left t table code ≡ translation source (zeros table_words) (zeros code_bytes)) where
  pub into_arrays : left t table code ≡ in_arrays (with_room source)
  unfolding translation
  into_arrays =
      h
      ∙ ap (λ (n : ℕ). in_arrays (front source n (length (zeros code_bytes)))) (length-replicate {A = ℕ} table_words 0)
      ∙ ap (λ (n : ℕ). in_arrays (front source table_words n)) (length-replicate {A = ℕ} code_bytes 0)

  pub reported : answer_lines t ≡ report_of source
  unfolding report_of
  reported = ap (λ (x : Translated). answer_lines x.answer) into_arrays

-- the seven lines fit in a line
pub report_fits : (source : List ℕ) → length (report_of source) ≤ report_limit
unfolding report_of
report_fits source =
    let t = answered (with_room source) in
    let fits = ap length (summary_fits t.status t.place t.tokens t.rows t.«data» t.depth t.code) in
    omega (arith, fits, length-take 128 (answer_lines t))
