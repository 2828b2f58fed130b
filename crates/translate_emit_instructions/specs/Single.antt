-- One instruction written, by its encoding's count of halfwords: none, one or two. Laws; assume nothing.
use Rattle.std.specs.Prelude.{◌≡◌, Bool, List, [], ◌∷◌, ◌++◌, ℕ, ◌+◌, ◌≤◌}
use Rattle.std.proofs.Math.Path.{refl, ap}
use Rattle.std.proofs.Common.{sym, ◌∙◌, arith}
use Rattle.std.proofs.Math.ListN.{length}
use Rattle.std.proofs.lemmas.List.Edits.{sets}
use Rattle.std.proofs.Math.Dec.{eqb}
use borrow.Author.Tests.{eq-eqb, ne_eqb, eqb-true, eqb-false}
use Rattle.arm_word.specs.ChoiceLaws.{by_test}
use Rattle.arm_encoding.specs.Encoding.{Encoded, encode_of}
use Rattle.arm_encoding.specs.declared.Instr.{Instr}
use Rattle.arm_encoding.specs.EncodingBytes.{halfword_bytes, encoded_bytes}
use Rattle.translate_rules.specs.InstructionBytes.{bytes_of, bytes, size}
use Rattle.translate_emit_instructions.specs.Write.{Room, Wrote}

module _ (i : Instr) (e : Encoded) (is : e ≡ encode_of i) where
  by_count : bytes (i ∷ []) ≡ encoded_bytes e ++ []
  unfolding bytes bytes_of
  by_count = ap (λ (x : Encoded). encoded_bytes x ++ []) (sym is)

  bytes_none : e.count ≡ 0 → bytes (i ∷ []) ≡ []
  unfolding encoded_bytes
  bytes_none z = by_count ∙ rw (eq-eqb _ 0 z)

  bytes_one : e.count ≡ 1 → bytes (i ∷ []) ≡ halfword_bytes e.first
  unfolding encoded_bytes
  bytes_one z = by_count ∙ rw (ne_eqb _ 0 (λ (y : e.count ≡ 0). omega arith), eq-eqb _ 1 z)

  bytes_two : (e.count ≡ 0 → ⊥) → (e.count ≡ 1 → ⊥) → bytes (i ∷ []) ≡ halfword_bytes e.first ++ halfword_bytes e.second
  unfolding encoded_bytes
  bytes_two y z = by_count ∙ rw (ne_eqb _ 0 y, ne_eqb _ 1 z)

  module _ {l : List ℕ} {at : ℕ} where
    pub wrote_none : e.count ≡ 0 → Wrote l at (i ∷ []) l at
    unfolding size
    wrote_none z = record { bytes_at = rw (bytes_none z) refl; end_at = rw (bytes_none z) (omega arith) }

    pub room_some : (e.count ≡ 0 → ⊥) → Room l at (i ∷ []) → at + 2 ≤ length l
    unfolding size
    room_some y h =
        by_test (λ (b : Bool). eqb e.count 1 ≡ b → at + 2 ≤ length l) (eqb e.count 1)
        (λ _ z. omega (arith, h.fits, ap length (bytes_one (eqb-true _ 1 z))))
        (λ _ z. omega (arith, h.fits, ap length (bytes_two y (eqb-false _ 1 z))))
        refl

    pub room_two : (e.count ≡ 0 → ⊥) → (e.count ≡ 1 → ⊥) → Room l at (i ∷ []) → at + 4 ≤ length l
    unfolding size
    room_two y z h = omega (arith, h.fits, ap length (bytes_two y z))

    pub wrote_one : {l' : List ℕ} → e.count ≡ 1 → l' ≡ sets l at (halfword_bytes e.first) → Wrote l at (i ∷ []) l' (at + 2)
    unfolding size
    wrote_one z w = record { bytes_at = w ∙ ap (sets l at) (sym (bytes_one z)); end_at = rw (bytes_one z) refl }

    pub wrote_two : {l' : List ℕ} → (e.count ≡ 0 → ⊥) → (e.count ≡ 1 → ⊥)
        → l' ≡ sets l at (halfword_bytes e.first ++ halfword_bytes e.second) → Wrote l at (i ∷ []) l' (at + 4)
    unfolding size
    wrote_two y z w = record { bytes_at = w ∙ ap (sets l at) (sym (bytes_two y z)); end_at = rw (bytes_two y z) refl }
