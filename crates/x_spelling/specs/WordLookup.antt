-- How a name is looked up among the reserved words, and with how many it is compared in full: request 2026-03. Definitions.
-- Rests on Words.
use Rattle.std.specs.Prelude.{Bool, true, false, List, [], ◌∷◌, ℕ, suc, eqb, length, get_or, Option, None, Some}
use Rattle.arm_word.specs.Choice.{pick}
use Rattle.x_spelling.specs.Words.{same, Entry, reserved}
use Rattle.x_spelling.specs.declared.Word.{Word}
use Rattle.x_spelling.specs.declared.Lookup.{Lookup}

-- has this length and first letter
abbrev pub candidate : ℕ → ℕ → Entry → Bool
candidate n b e = pick (eqb n (length e.bytes)) (eqb b (get_or e.bytes 0 0)) false

-- a reserved word before others, if it is to be kept
abbrev pub keep : Bool → Entry → List Entry → List Entry
keep true e es = e ∷ es
keep false e es = es

-- those of a list that have this length and first letter, in its order
unfoldable pub candidates : ℕ → ℕ → List Entry → List Entry
candidates n b [] = []
candidates n b (e ∷ es) = keep (candidate n b e) e (candidates n b es)

-- "the reserved words of its length and first letter, in document 01's order"; the empty name has first letter 0, as no word has
abbrev pub candidates_of : List ℕ → List Entry
candidates_of w = candidates (length w) (get_or w 0 0) reserved

-- what was found after n comparisons
abbrev pub looked : Option Word → ℕ → Lookup
looked found n = record { found = found; compared = n }

-- "compare a name in full .. up to the match, and let the lookup report how many": the match is counted too; n were compared before
unfoldable pub compare : List Entry → List ℕ → ℕ → Lookup
compare [] w n = looked None n
compare (e ∷ es) w n = pick (same w e.bytes) (looked (Some e.token) (suc n)) (compare es w (suc n))

-- a name among its candidates
abbrev pub look_up : List ℕ → Lookup
look_up w = compare (candidates_of w) w 0
