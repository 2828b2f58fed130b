-- `translate_emit_instructions::put` meets its contract: by the encoding nothing, one halfword or two were stored (`Single`).
-- Assumes nothing.
use native.Mathlib.Omega.{arith}
use native.Mathlib.Numerals.{towards_suc}
use lib.ListN.{length-set}
use mathlib.Core.Path.{◌≡◌, refl, sym, ap, ◌∙◌}
use Rattle.std.specs.Prelude.{Option, Some, ℕ, ◌%◌, [], ◌∷◌}
use Rattle.std.specs.Int.{w16, to_le_bytes}
use Rattle.arm_encoding.specs.EncodingBytes.{halfword_bytes}
use Rattle.arm_encoding.specs.EncodingLaws.{second_fits}
use Rattle.arm_encoding.specs.EncodingByteLaws.{first_fits}
use Rattle.arm_encoding.specs.Encoding.{Encoded, refused, one, two, encoded, encode_of}
use Rattle.arm_encoding.specs.declared.Halfwords.{Halfwords}
use Rattle.arm_encoding.specs.declared.Instr.{Instr}
use Rattle.translate_emit_instructions.specs.Single.{room_some, room_two, wrote_none, wrote_one, wrote_two}
use Rattle.translate_emit_instructions.proofs.put.Goals as goal

-- an encoding whose halfwords are known
known : {r : Option Halfwords} {h g : Halfwords} {e : Encoded} → r ≡ Some h → h ≡ g → encoded r ≡ e → encoded (Some g) ≡ e
known p q z = sym (ap encoded (p ∙ ap Some q)) ∙ z

-- a halfword's bytes are those that the encoding gives
module _ (i : Instr) (e : Encoded) (is : e ≡ encode_of i) where
  lower_first : to_le_bytes w16 e.first ≡ halfword_bytes e.first
  lower_first = ap (λ (x : ℕ). e.first % 256 ∷ x ∷ []) (omega (arith, first_fits i, ap (λ (x : Encoded). x.first) is))

  then_lower_first : to_le_bytes w16 e.second ≡ halfword_bytes e.second
  then_lower_first = ap (λ (x : ℕ). e.second % 256 ∷ x ∷ []) (omega (arith, second_fits i, ap (λ (x : Encoded). x.second) is))

pub returns-in-None : goal.returns-in-None
returns-in-None c = wrote_none c.args.i refused (sym (ap encoded c.in-None.is) ∙ c.encode.ensures) refl

pub bounds-code-at : goal.bounds-code-at
bounds-code-at c =
    let o = c.in-Some-One in
    omega (arith, room_some c.args.i (one o.first) (known o.is o.field-0-is c.encode.ensures) (λ z. omega (arith, z)) c.requires)

pub bounds-code-at-in-Some-One : goal.bounds-code-at-in-Some-One
bounds-code-at-in-Some-One c =
    let o = c.in-Some-One in
    simp length-set (omega (arith, room_some c.args.i (one o.first) (known o.is o.field-0-is c.encode.ensures) (λ z. omega (arith, z)) c.requires))

pub returns-in-Some-One : goal.returns-in-Some-One
returns-in-Some-One c =
    let o = c.in-Some-One in
    let k = known o.is o.field-0-is c.encode.ensures in
    wrote_one c.args.i (one o.first) k refl (rw (c.to_le_bytes.ensures ∙ lower_first c.args.i (one o.first) k) (simp towards_suc))

pub bounds-code-at-in-Some-Two : goal.bounds-code-at-in-Some-Two
bounds-code-at-in-Some-Two c =
    let t = c.in-Some-Two in
    omega (arith, room_two c.args.i (two t.first t.second) (known t.is t.field-0-is c.encode.ensures) (λ z. omega (arith, z)) (λ z. omega (arith, z)) c.requires)

pub bounds-code-at-in-Some-Two-2 : goal.bounds-code-at-in-Some-Two-2
bounds-code-at-in-Some-Two-2 c =
    let t = c.in-Some-Two in
    simp length-set (omega (arith, room_two c.args.i (two t.first t.second) (known t.is t.field-0-is c.encode.ensures) (λ z. omega (arith, z)) (λ z. omega (arith, z)) c.requires))

pub bounds-code-at-in-Some-Two-3 : goal.bounds-code-at-in-Some-Two-3
bounds-code-at-in-Some-Two-3 c =
    let t = c.in-Some-Two in
    simp length-set (omega (arith, room_two c.args.i (two t.first t.second) (known t.is t.field-0-is c.encode.ensures) (λ z. omega (arith, z)) (λ z. omega (arith, z)) c.requires))

pub bounds-code-at-in-Some-Two-4 : goal.bounds-code-at-in-Some-Two-4
bounds-code-at-in-Some-Two-4 c =
    let t = c.in-Some-Two in
    simp length-set (omega (arith, room_two c.args.i (two t.first t.second) (known t.is t.field-0-is c.encode.ensures) (λ z. omega (arith, z)) (λ z. omega (arith, z)) c.requires))

pub returns-in-Some-Two : goal.returns-in-Some-Two
returns-in-Some-Two c =
    let t = c.in-Some-Two in
    let e = two t.first t.second in
    let k = known t.is t.field-0-is c.encode.ensures in
    wrote_two c.args.i e k (λ z. omega (arith, z)) (λ z. omega (arith, z))
    (rw (c.to_le_bytes-in-Some-Two.ensures ∙ lower_first c.args.i e k, c.to_le_bytes-in-Some-Two-2.ensures ∙ then_lower_first c.args.i e k) (simp towards_suc))
