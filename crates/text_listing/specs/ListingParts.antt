-- What the listing is made of: the next line of an image, and the two answers of a translation; and how long it is. Laws; assumes nothing.
use Rattle.std.specs.Prelude.{◌≡◌, List, ◌++◌, ℕ, ◌+◌, ◌-◌, ◌*◌, ◌≤◌, ◌<◌, drop}
use Rattle.std.proofs.Math.Path.{refl, sym, ap}
use Rattle.std.proofs.Common.{◌∙◌, arith, take_at}
use Rattle.std.proofs.Math.ListN.{length, take, length-append}
use Rattle.x_verdict.specs.Front.{Outcome, refused, accepted}
use Rattle.x_verdict.proofs.Refused.{refusal}
use Rattle.translate_rules.specs.ImageCode.{image}
use Rattle.arm_machine.specs.Step.{half_at}
use Rattle.translate_source.specs.declared.Translation.{Translation}
use Rattle.translate_source.specs.Translate.{Translated, left, translation, zeros}
use Rattle.translate_source.specs.TranslationRoom.{accepted_fits}
use Rattle.text_disassembly.specs.Disassembly.{line, size}
use Rattle.text_disassembly.specs.ImageLines.{text_from}
use Rattle.text_disassembly.specs.ImageLineLaws.{text_at, text_short}
use Rattle.text_report.specs.Report.{table_words, code_bytes, with_room, answer_lines}
use Rattle.text_report.specs.ReportLaws.{in_arrays, into_arrays, reported, report_fits}
use Rattle.text_buffer.specs.Buffer as buffer
use Rattle.text_buffer.specs.Buffer.{placed}
use Rattle.text_buffer.specs.BufferLaws.{then}
use Rattle.text_listing.specs.Listing.{listed, listing_of, listing_limit}

-- ── the lines of an image ──

-- a line put into the buffer, and the text from the address behind it on still to be put
pub line_put : (code out out' : List ℕ) (at end end' first second n : ℕ) (l : List ℕ) →
    at < length code →
    first ≡ half_at code at →
    second ≡ half_at code (at + 2) →
    l ≡ line at first second →
    n ≡ size first second →
    buffer.left out' end' ≡ placed out end l →
    placed out' end' (text_from (at + n) (drop (at + n) code)) ≡ placed out end (text_from at (drop at code))
line_put code out out' at end end' first second n l h f s e k w =
    let whole : l ++ text_from (at + n) (drop (at + n) code) ≡ text_from at (drop at code) = rw (e, k, f, s) (sym (text_at code at h)) in
    then out out' end end' l (text_from (at + n) (drop (at + n) code)) w ∙ ap (placed out end) whole

-- ── the answer of a translation into arrays of the report's lengths ──

module _ (source table code : List ℕ) (t : Translation) (h : left t table code ≡ translation source (zeros table_words) (zeros code_bytes)) where
  -- a refused source
  pub refused_text : (t.status ≡ 0 → ⊥) → answer_lines t ≡ listing_of source
  unfolding listing_of
  refused_text bad = go (with_room source) (into_arrays source table code t h)
    where
      go : (o : Outcome) → left t table code ≡ in_arrays o → answer_lines t ≡ listed source o
      go (refused n at) e = reported source table code t h
      go (accepted n p) e = absurd (bad (ap (λ (x : Translated). x.answer.status) e))

  -- an accepted source's image stands at the front of the code buffer
  pub record Image : Type 0 where
    pub within : t.code ≤ length code
    pub counted : t.code ≡ length (take t.code code)
    pub small : length (take t.code code) ≤ 65536
    pub text : text_from 0 (take t.code code) ≡ listing_of source

  pub accepted_text : t.status ≡ 0 → Image
  unfolding listing_of
  accepted_text ok = go (with_room source) refl (into_arrays source table code t h)
    where
      go : (o : Outcome) → with_room source ≡ o → left t table code ≡ in_arrays o → Image
      go (refused n at) f e = absurd (omega (arith, (refusal source table_words code_bytes n at f).low, ok, ap (λ (x : Translated). x.answer.status) e))
      go (accepted n p) f e =
          let k : t.code ≡ length (image p) = ap (λ (x : Translated). x.answer.code) e in
          let c : code ≡ image p ++ zeros (length (zeros code_bytes) - length (image p)) = ap (λ (x : Translated). x.code) e in
          let i : take t.code code ≡ image p = rw (k, c) (take_at (image p) (zeros (length (zeros code_bytes) - length (image p))) (length (image p)) refl) in
          let l = ap length i in
          record {
            within = omega (arith, k, ap length c, length-append (image p) (zeros (length (zeros code_bytes) - length (image p))));
            counted = k ∙ sym l;
            small = omega (arith, l, (accepted_fits source table_words code_bytes n p f).small);
            text = ap (text_from 0) i ∙ ap (listed source) (sym f);
          }

-- ── how long a listing is ──

pub listing_fits : (source : List ℕ) → length (listing_of source) ≤ listing_limit
unfolding listing_of
listing_fits source = go (with_room source) refl
  where
    go : (o : Outcome) → with_room source ≡ o → length (listed source o) ≤ listing_limit
    go (refused n at) f = omega (arith, report_fits source)
    go (accepted n p) f =
        let small : length (image p) ≤ 2 * 24704 = (accepted_fits source table_words code_bytes n p f).small in
        text_short (image p) 0 24704 small
