-- Every pair of halfwords is exactly one of three: an instruction of the list, undefined or unpredictable, or of a class. Laws; rests on Classes and on the decoder's table.
use Rattle.std.proofs.Math.Path.{◌≡◌, refl, sym}
use Rattle.std.proofs.Common.{ap, ◌∙◌, lit<, ltb-false}
use Rattle.std.specs.Prelude.{true, false, ℕ, ◌+◌, ◌≤◌, ◌<◌, Option, Some, None, ltb}
use Rattle.std.proofs.Math.Bool.{and-false}
use native.Mathlib.Omega.{arith}
use Rattle.arm_word.specs.ChoiceLaws.{by_test}
use Rattle.arm_word.specs.Ranges.{from_to}
use Rattle.arm_word.specs.RangeLaws.{above, bounds, plain, ◌and◌, done, found, every, passes, holding, held_by_none, tiles, bare, insert, merge, held_by_one}
use Rattle.arm_encoding.specs.Encoding.{end, table, find, decode_of}
use Rattle.arm_encoding.specs.EncodingTable.{ranges, at, row_hit, row_miss, listed, unknown_in_none, in_none_unknown}
use Rattle.arm_encoding.specs.EncodingLaws.{known_cases}
use Rattle.arm_encoding.specs.declared.Instr.{Instr}
use Rattle.arm_classes.specs.Classes.{lines, class_of, Part, none, rows, pair_defined, defines, defined, classify_of}
use Rattle.arm_classes.specs.ClassRows.{in_row}
use Rattle.arm_classes.specs.Told.{met, Told, ours, undefined, unsupported}

-- ── one row ──

tiled : tiles 0 65536 (merge (bare (ranges table)) (bare rows)) ≡ true
unfolding table ranges rows tiles bare insert merge
tiled = refl

-- every first halfword stands in exactly one row: of the list's table, or of those outside it
pub one_row : (h : ℕ) → h < 65536 → holding (ranges table) h + holding rows h ≡ 1
one_row h l = held_by_one (ranges table) rows 0 65536 h tiled (omega arith) l

-- ── the list ──

-- document 01's BL is none of the 32-bit instructions outside the list
long_apart : (h k : ℕ) → 0xF800 ≤ k → pair_defined h k ≡ false
unfolding pair_defined
long_apart h k l =
    let below : (first last : ℕ) → last < 0xF800 → from_to first last k ≡ false = λ first last b. above first last k (omega arith) in
    simp (below 0x8000 0x8FFF (lit< tt), below 0x8800 0x88FF (lit< tt), below 0x8F40 0x8F6F (lit< tt), below 0xD000 0xDFFF (lit< tt), below 0xF000 0xF7FF (lit< tt), and-false)

-- no instruction of the list is told to be outside it: it stands in no row, or it is BL, whose first half stands in row 41
pub listed_apart : (h k : ℕ) (i : Instr) → h < 65536 → decode_of h k ≡ Some i → defined h k ≡ false
listed_apart h k i b d =
    known_cases h k i (defined h k ≡ false) d
    (λ _ e. ap (λ (x : Part). defines x h k) (held_by_none none rows h (outside e)))
    (λ w l g _. let n = ltb-false h 0xF000 w in unfold rows in in_row 41 h k (lit< tt) n (omega arith) ∙ long_apart h k g)
  where
    outside : find table h ≡ Some i → holding rows h ≡ 0
    outside e = omega (arith, one_row h b, some)
      where
        some : holding (ranges table) h ≡ 0 → ⊥
        some z = let u = in_none_unknown h z in let x : ◌≡◌ {A = ℕ} 0 1 = cc in omega arith

-- ── what is outside the list ──

-- behind the table
no_form_behind : (h : ℕ) → 0xF000 ≤ h → h < 65536 → find table h ≡ None
unfolding table ranges plain
no_form_behind h l b = row_miss 0xF000 0xFFFF h refl l (omega arith)

module _ (h k : ℕ) (b : h < 65536) (u : decode_of h k ≡ None) where
  no_form : find table h ≡ None
  unfolding decode_of
  no_form =
      by_test (λ _. find table h ≡ None) (ltb h 0xF000)
      (λ e. sym (rw e) ∙ u)
      (λ e. no_form_behind h (ltb-false h 0xF000 e) b)

  -- its first half stands in no row of the list's table, so in one of those outside it
  pub unlisted_row : holding rows h ≡ 1
  unlisted_row = omega (arith, one_row h b, unknown_in_none h no_form)

  -- halfwords of a form are of the list
  in_form : (j : ℕ) → j < 33 → (at j).shape.base ≤ h → h < end (at j).shape → ⊥
  in_form j l f e = let x = row_hit j h l f e in let y = no_form in let z : ◌≡◌ {A = ℕ} 0 1 = cc in omega arith

  -- its class is one of the nine that can be met: classes 4, 6, 7 and 12 are all of rows 16 (LDRPCI), 23 (ADDPCI), 24 (ADDSPI) and 32 (BU) of the list's table
  pub class_met : listed met (class_of h) ≡ true
  unfolding lines table listed
  class_met =
      found (λ c. listed met c ≡ true) 13 lines h
      ((λ _ _. refl)
      and (λ _ _. refl)
      and (λ _ _. refl)
      and (λ f e. absurd (in_form 16 (lit< tt) f (omega arith)))
      and (λ _ _. refl)
      and (λ f e. absurd (in_form 23 (lit< tt) f (omega arith)))
      and (λ f e. absurd (in_form 24 (lit< tt) f (omega arith)))
      and (λ _ _. refl)
      and (λ _ _. refl)
      and (λ _ _. refl)
      and (λ _ _. refl)
      and (λ f e. absurd (in_form 32 (lit< tt) f (omega arith)))
      and done)
      refl

-- ── request 2026-05: "22 for what Armv6-M itself leaves undefined ... or unpredictable, 26 ... for all else that we don't take, with the class as a number" ──

class_range : (h : ℕ) → (1 ≤ class_of h) × (class_of h ≤ 13)
unfolding lines every
class_range h = bounds 1 13 (class_of h) (passes (from_to 1 13) 13 lines h refl refl)

pub told_apart : (h k : ℕ) → h < 65536 → Told h k
unfolding classify_of
told_apart h k b = by_decoding (decode_of h k) refl
  where
    outside : decode_of h k ≡ None → Told h k
    outside u =
        let c = class_range h in
        by_test (λ _. Told h k) (defined h k)
        (λ e. unsupported (class_of h) u (rw e) c.0 c.1 (class_met h k b u))
        (λ e. undefined u (rw e))

    by_decoding : (d : Option Instr) → decode_of h k ≡ d → Told h k
    by_decoding (Some i) e = ours i e (listed_apart h k i b e)
    by_decoding None e = outside e
