-- The tokens that an array of kinds and one of values hold, from a place on. Definitions; rests on the grammar's tokens and the kinds.
use Rattle.std.specs.Prelude.{List, [], ◌∷◌, ℕ, zero, suc, ◌-◌, eqb, length, get_or}
use Rattle.arm_word.specs.Choice.{pick}
use Rattle.x_spelling.specs.Kinds as kind
use Rattle.x_grammar.specs.Grammar.{Token, number, name, mark}

-- token i, of kind k and value v
abbrev pub token_of : ℕ → ℕ → ℕ → Token
token_of i k v = pick (eqb k kind.number) (number v) (pick (eqb k kind.name) (name i) (mark k))

-- m tokens from the i-th on
unfoldable pub tokens : List ℕ → List ℕ → ℕ → ℕ → List Token
tokens kinds values i zero = []
tokens kinds values i (suc m) = token_of i (get_or kinds i 0) (get_or values i 0) ∷ tokens kinds values (suc i) m

-- the tokens from the i-th to the last
unfoldable pub unread : List ℕ → List ℕ → ℕ → List Token
unread kinds values i = tokens kinds values i (length kinds - i)
