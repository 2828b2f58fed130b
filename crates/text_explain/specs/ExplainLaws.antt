-- What the answer of a translation tells of the source, and how long an explanation is. Laws; assumes nothing.
use Rattle.std.specs.Prelude.{◌≡◌, refl, Bool, true, false, List, ◌++◌, ℕ, ◌≤◌, eqb, leb, length}
use Rattle.std.proofs.Common.{sym, ◌∙◌, arith, length-append, length-take, take_all, leb-true}
use Rattle.std.proofs.Math.Path.{ap}
use Rattle.arm_word.specs.Choice.{pick}
use Rattle.arm_word.specs.ChoiceLaws.{by_test}
use Rattle.x_tokens.specs.TokenList as token
use Rattle.x_verdict.specs.Front.{Outcome, refused, accepted, tokened, front}
use Rattle.x_verdict.proofs.Refused.{refusal, accepted_sound}
use Rattle.arm_state.specs.State.{needed}
use Rattle.arm_word.specs.Ascii.{ascii}
use Rattle.text_lines.specs.Text.{fitted}
use Rattle.text_lines.specs.LineLaws.{length_digits}
use Rattle.text_position.specs.Position.{line_of, column_of, shown_line, caret_line}
use Rattle.text_position.specs.PositionLaws.{shown_fits, caret_fits}
use Rattle.text_refusal.specs.Refusal.{reason_of}
use Rattle.text_refusal.specs.RefusalRoom.{reason_fits}
use Rattle.text_names.specs.Names.{names_of}
use Rattle.text_names.specs.Tokens.{IsAccepted}
use Rattle.text_names.specs.NamesRoom.{names_fit}
use Rattle.translate_source.specs.declared.Translation.{Translation}
use Rattle.translate_source.specs.Translate.{Translated, left, zeros, answered, translation}
use Rattle.text_report.specs.Report.{table_words, code_bytes, with_room}
use Rattle.text_report.specs.ReportLaws.{in_arrays, into_arrays}
use Rattle.text_explain.specs.Explain.{sizes, names_head, accepted_text, placeless, place_line, place_text, refused_text, explained, explain_of, explain_limit}

-- data and depth of an accepted program
pub record Small (t : Translation) : Type 0 where
  pub words : t.«data» ≤ 8192
  pub depth : t.depth ≤ 32

-- ── lines fit ──

pub sizes_fit : (t : Translation) → fitted (sizes t) ≡ sizes t
unfolding sizes
sizes_fit t =
    take_all 128 (sizes t)
    (simp length-append (omega (arith, length_digits 9 t.tokens, length_digits 9 t.«data», length_digits 9 (needed t.«data» t.depth), length_digits 9 t.code)))

pub place_fits : (source : List ℕ) (place : ℕ) → fitted (place_line source place) ≡ place_line source place
unfolding place_line
place_fits source place =
    take_all 128 (place_line source place) (simp length-append (omega (arith, length_digits 9 (line_of source place), length_digits 9 (column_of source place))))

-- ── a place lies in a source that is not too long ──

small_place : (source : List ℕ) (table code n p : ℕ) → front source table code ≡ refused n p → p ≤ 16384
unfolding front token.outcome
small_place source table code n p e =
    by_test (λ (b : Bool). leb (length source) 16384 ≡ b → p ≤ 16384) (leb (length source) 16384)
    (λ _ t. omega (arith, (refusal source table code n p e).inside, leb-true (length source) 16384 t))
    (λ _ t. let long : tokened source table code (pick (leb (length source) 16384) (token.scan source 0 0 0) (token.refused 1 0)) ≡ refused 1 0 = rw t in
    let z : p ≡ 0 = let q = sym e ∙ long in cc in omega (arith, z)) refl

-- ── the answer of a translation into arrays of the report's lengths ──

module _ (source table code : List ℕ) (t : Translation) (h : left t table code ≡ translation source (zeros table_words) (zeros code_bytes)) where
  pub explained_is : explained source t ≡ explain_of source
  unfolding explain_of
  explained_is = ap (λ (x : Translated). explained source x.answer) (into_arrays source table code t h)

  pub accepted_small : t.status ≡ 0 → Small t × IsAccepted source
  accepted_small ok = go (with_room source) refl (into_arrays source table code t h)
    where
      go : (o : Outcome) → with_room source ≡ o → left t table code ≡ in_arrays o → Small t × IsAccepted source
      go (refused n at) f e = absurd (omega (arith, (refusal source table_words code_bytes n at f).low, ok, ap (λ (x : Translated). x.answer.status) e))
      go (accepted n p) f e =
          let s = accepted_sound source table_words code_bytes n p f in (
            record {
              words = omega (arith, s.small, ap (λ (x : Translated). x.answer.«data») e);
              depth = omega (arith, s.shallow, ap (λ (x : Translated). x.answer.depth) e);
            },
            record { table = table_words; code = code_bytes; count = n; tree = p; is = f },
          )

  pub refused_small : t.place ≤ 16384
  refused_small = go (with_room source) refl (into_arrays source table code t h)
    where
      go : (o : Outcome) → with_room source ≡ o → left t table code ≡ in_arrays o → t.place ≤ 16384
      go (refused n at) f e = omega (arith, small_place source table_words code_bytes n at f, ap (λ (x : Translated). x.answer.place) e)
      go (accepted n p) f e = omega (arith, ap (λ (x : Translated). x.answer.place) e)

-- ── how long an explanation is ──

line_short : (l : List ℕ) → fitted l ≡ l → length l ≤ 128
line_short l e = omega (arith, ap length e, length-take 128 l)

accepted_short : (source : List ℕ) (t : Translation) → length (accepted_text source t) ≤ explain_limit
accepted_short source t =
    omega (arith, length-append (sizes t) (names_head ++ names_of source), length-append names_head (names_of source), line_short (sizes t) (sizes_fit t), names_fit source)

refused_short : (source : List ℕ) (n place : ℕ) → length (refused_text source n place) ≤ explain_limit
refused_short source n place =
    omega (arith, length-append (pick (placeless n) (ascii "refused\n") (place_text source place)) (reason_of source n place), reason_fits source n place, by (placeless n))
  where
    by : (b : Bool) → length (pick b (ascii "refused\n") (place_text source place)) ≤ 384
    by true = omega arith
    by false =
        omega (
          arith,
          length-append (place_line source place) (shown_line source place ++ caret_line source place),
          length-append (shown_line source place)
              (caret_line source place),
          line_short (place_line source place) (place_fits source place),
          line_short (shown_line source place) (shown_fits source place),
          line_short
              (caret_line source place) (caret_fits source place),
        )

pub explain_fits : (source : List ℕ) → length (explain_of source) ≤ explain_limit
unfolding explain_of
explain_fits source =
    let t = answered (with_room source) in
    by t (eqb t.status 0)
  where
    by : (t : Translation) (b : Bool) → length (pick b (accepted_text source t) (refused_text source t.status t.place)) ≤ explain_limit
    by t true = accepted_short source t
    by t false = refused_short source t.status t.place
