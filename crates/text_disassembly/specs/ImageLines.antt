-- The lines of a whole image. Definitions; rests on Disassembly and on how the machine reads code.
-- Assumes nothing.
use mathlib.Core.List.{List, [], ◌∷◌, flatten}
use Rattle.std.specs.Prelude.{ℕ, zero, suc, ◌+◌, eqb, get_or}
use Rattle.arm_word.specs.Choice.{pick}
use Rattle.arm_machine.specs.Step.{half_at}
use Rattle.text_disassembly.specs.Disassembly.{line, size}

-- an image's halfwords, as the machine reads them; a byte past the end counts as 0
unfoldable pub halfwords : List ℕ → List ℕ
halfwords [] = []
halfwords (low ∷ []) = half_at (low ∷ []) 0 ∷ []
halfwords (low ∷ high ∷ bytes) = half_at (low ∷ high ∷ []) 0 ∷ halfwords bytes

-- how many halfwords behind the first a line shows
abbrev pub more_shown : ℕ → ℕ → ℕ
more_shown first h = pick (eqb (size first h) 4) 1 0

-- the lines of halfwords from an address on, the first `skip` of which the line before has shown
unfoldable pub lines : ℕ → ℕ → List ℕ → List (List ℕ)
lines at skip [] = []
lines at zero (h ∷ hs) = line at h (get_or hs 0 0) ∷ lines (at + 2) (more_shown h (get_or hs 0 0)) hs
lines at (suc skip) (h ∷ hs) = lines (at + 2) skip hs

-- the text of code from an address on: all its lines, one after another
unfoldable pub text_from : ℕ → List ℕ → List ℕ
text_from at bytes = flatten (lines at 0 (halfwords bytes))
