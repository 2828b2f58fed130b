-- The constants that document 01 names, and the constants of one MOVI and of a MOVI and one SHLI in general. Statements and their proofs.
use Rattle.std.specs.Prelude.{◌≡◌, refl, [], ◌∷◌, map, ℕ, ◌*◌, ◌^◌, ◌≤◌, ◌<◌}
use Rattle.std.specs.Int.Count.{count_trailing_zeros, count_leading_zeros}
use Rattle.arm_encoding.specs.declared.Instr.TheVariants.{Movi, Shli, Addi}
use Rattle.translate_rules.specs.Constant.{load_constant, span_constant}
use Rattle.translate_rules.specs.CodeLaws.{constant_byte, constant_span}
use Rattle.translate_rules.specs.Bits.{byte_span}

-- The image: "A constant 1 to 255 or 0 is one MOVI; another constant whose set bits span at most eight neighbouring places is a MOVI and one SHLI ... (256, 1,020; not 257)"
pub constants : map (load_constant 0) (0 ∷ 1 ∷ 255 ∷ 256 ∷ 1020 ∷ 0xFF000000 ∷ 257 ∷ [])
    ≡ (Movi 0 0 ∷ [])
    ∷ (Movi 0 1 ∷ [])
    ∷ (Movi 0 255 ∷ [])
    ∷ (Movi 0 1 ∷ Shli 8 0 0 ∷ [])
    ∷ (Movi 0 255 ∷ Shli 2 0 0 ∷ [])
    ∷ (Movi 0 255 ∷ Shli 24 0 0 ∷ [])
    ∷ (Movi 0 0 ∷ Shli 8 0 0 ∷ Addi 0 0 ∷ Shli 8 0 0 ∷ Addi 0 1 ∷ Shli 8 0 0 ∷ Addi 0 1 ∷ [])
    ∷ []
unfolding load_constant count_trailing_zeros count_leading_zeros
constants = refl

-- every byte
pub one_movi : (d w : ℕ) → w < 256 → load_constant d w ≡ Movi d w ∷ []
one_movi d w h = constant_byte d w h

-- every byte shifted up
pub movi_and_shli : (d u n : ℕ) → 0 < u → u < 256 → u * 2 ^ n < 2 ^ 32 → 256 ≤ u * 2 ^ n → load_constant d (u * 2 ^ n) ≡ span_constant d (u * 2 ^ n)
movi_and_shli d u n p h b l = constant_span d (u * 2 ^ n) l (byte_span u n p h b)
