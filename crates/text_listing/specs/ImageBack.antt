-- The lines of an image give back its bytes. Laws; assumes nothing.
use Rattle.std.specs.Prelude.{◌≡◌, refl, Bool, true, false, ℕ, zero, suc, ◌<◌, eqb, get_or}
use Rattle.std.proofs.Common.{ap, ◌∙◌, arith}
use mathlib.Core.List.{List, [], ◌∷◌, ◌++◌, map, flatten}
use Rattle.arm_word.specs.Choice.{pick}
use Rattle.arm_encoding.specs.declared.Instr.{Instr}
use Rattle.arm_encoding.specs.Encoding.{encode_of}
use Rattle.arm_encoding.specs.EncodingLaws.{second_fits}
use Rattle.arm_encoding.specs.EncodingBytes.{halfword_bytes, encoded_bytes}
use Rattle.arm_encoding.specs.EncodingByteLaws.{first_fits}
use Rattle.x_program.specs.Tree.{Program}
use Rattle.x_program.specs.Core.{core_process}
use Rattle.translate_rules.specs.InstructionBytes.{bytes_of, bytes}
use Rattle.translate_rules.specs.ImageCode.{image_code, image}
use Rattle.text_disassembly.specs.ImageLines.{halfwords, lines}
use Rattle.text_disassembly.specs.HalfwordsBack.{read_back}
use Rattle.text_disassembly.specs.ImageLineLaws.{lines_back}

-- the bytes of halfwords
bytes_in : List ℕ → List ℕ
bytes_in hs = flatten (map halfword_bytes hs)

-- bytes that are halfwords of 16 bits each
record Whole (bs : List ℕ) : Type 0 where
  back : bytes_in (halfwords bs) ≡ bs
  small : (j : ℕ) → get_or (halfwords bs) j 0 < 65536

none : Whole []
unfolding bytes_in halfwords flatten
none = record { back = refl; small = λ j. omega arith }

joined : (h : ℕ) (bs : List ℕ) → halfwords (halfword_bytes h ++ bs) ≡ h ∷ halfwords bs
unfolding halfwords
joined h bs = ap (λ (x : ℕ). x ∷ halfwords bs) (omega arith)

more : (h : ℕ) (bs : List ℕ) → h < 65536 → Whole bs → Whole (halfword_bytes h ++ bs)
unfolding bytes_in flatten
more h bs l w = record {
  back = ap bytes_in (joined h bs) ∙ ap (λ (r : List ℕ). halfword_bytes h ++ r) w.back;
  small = λ j. rw (joined h bs) (at j);
}
  where
    at : (j : ℕ) → get_or (h ∷ halfwords bs) j 0 < 65536
    at zero = l
    at (suc j) = w.small j

encoded : (none? one? : Bool) (f s : ℕ) (bs : List ℕ) → f < 65536 → s < 65536 → Whole bs → Whole (pick none? [] (pick one? (halfword_bytes f) (halfword_bytes f ++ halfword_bytes s)) ++ bs)
encoded true one? f s bs x y w = w
encoded false true f s bs x y w = more f bs x w
encoded false false f s bs x y w = more f (halfword_bytes s ++ bs) x (more s bs y w)

instructions : (is : List Instr) → Whole (bytes is)
unfolding bytes bytes_of encoded_bytes
instructions [] = none
instructions (i ∷ is) = encoded (eqb (encode_of i).count 0) (eqb (encode_of i).count 1) (encode_of i).first (encode_of i).second (bytes is) (first_fits i) (second_fits i) (instructions is)

-- an image comes back, byte by byte, from the halfwords of its lines
pub image_back : (p : Program) → flatten (map halfword_bytes (read_back (lines 0 0 (halfwords (image p))))) ≡ image p
unfolding image bytes_in
image_back p =
    let w = instructions (image_code (core_process p.body)) in
    ap bytes_in (lines_back (halfwords (image p)) w.small) ∙ w.back
