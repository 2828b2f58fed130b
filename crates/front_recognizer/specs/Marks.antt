-- The marks of frames by number, as they stand in the working table. Definitions and a law; assume nothing.
use Rattle.std.specs.Prelude.{◌≡◌, refl, ℕ, eqb}
use Rattle.arm_word.specs.Choice.{pick}
use Rattle.front_recognizer.specs.declared.mark.Mark.{Mark}
use Rattle.front_recognizer.specs.declared.mark.Mark.TheVariants as mark

-- nothing, the then part, braces, a target's subscript, the condition of an if, of a while, brackets, a subscript
abbrev pub mark_number : Mark → ℕ
mark_number mark.Nothing = 0
mark_number mark.Then = 1
mark_number mark.Braces = 2
mark_number mark.Target = 3
mark_number mark.If = 4
mark_number mark.While = 5
mark_number mark.Brackets = 6
mark_number mark.Subscript = 7

-- the mark that a word of the table stands for; a word that is no mark's number is read as nothing
abbrev pub mark_of : ℕ → Mark
mark_of n =
    pick (eqb n 1) mark.Then
    (pick (eqb n 2) mark.Braces
    (pick (eqb n 3) mark.Target
    (pick (eqb n 4) mark.If (pick (eqb n 5) mark.While (pick (eqb n 6) mark.Brackets (pick (eqb n 7) mark.Subscript mark.Nothing))))))

pub mark_back : (m : Mark) → mark_of (mark_number m) ≡ m
mark_back mark.Nothing = refl
mark_back mark.Then = refl
mark_back mark.Braces = refl
mark_back mark.Target = refl
mark_back mark.If = refl
mark_back mark.While = refl
mark_back mark.Brackets = refl
mark_back mark.Subscript = refl
