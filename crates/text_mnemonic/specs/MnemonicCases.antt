-- Lines of the instructions that no image has: what the listing's comparison with a second rendering can't see. Laws; rests on Mnemonic.
use Rattle.std.specs.Prelude.{◌≡◌, refl, [], ◌∷◌, map}
use Rattle.arm_word.specs.Ascii.{ascii}
use Rattle.text_lines.specs.Text.{digits}
use Rattle.arm_encoding.specs.declared.Instr.TheVariants.{Ashri, Ldrpci, Addpci, Addspi, Stri, Ldri, Bge, Blt, Bu}
use Rattle.text_mnemonic.specs.Mnemonic.{instruction}

-- each at address 16; the branches go back to it, to the next but one and past that
pub not_in_images :
    map (instruction 16) (Ashri 32 1 2 ∷ Ldrpci 3 2 ∷ Addpci 4 255 ∷ Addspi 5 1 ∷ Stri 1 7 0 ∷ Ldri 31 6 5 ∷ Bge 4294967294 ∷ Blt 0 ∷ Bu 2 ∷ [])
    ≡ ascii "ASHRI r2,r1,32" ∷ ascii "LDRPCI r3,8" ∷ ascii "ADDPCI r4,1020" ∷ ascii "ADDSPI r5,4" ∷ ascii "STRI r0,r7,4" ∷ ascii "LDRI r5,r6,124" ∷ ascii "BGE 0010" ∷ ascii "BLT 0014"
    ∷ ascii "BU 0018" ∷ []
unfolding instruction digits
not_in_images = refl
