-- Refusal 6 over the grammar alone: the first token that no program continues with. Definition.
use Rattle.std.specs.Prelude.{◌≡◌, List, [], ◌∷◌, ◌++◌}
use Rattle.x_grammar.specs.Grammar.{Token, IsProgram}

-- "first token that no program continues with": r is unread. What stands before r begins some program; with r's first token it begins none; at the end of the tokens it is no program
pub record First (ts r : List Token) : Type 0 where
  pub before : List Token
  pub split : ts ≡ before ++ r
  pub viable : (w : List Token) × IsProgram (before ++ w)
  pub dead : (t : Token) (r' w : List Token) → r ≡ t ∷ r' → IsProgram (before ++ t ∷ w) → ⊥
  pub ended : r ≡ [] → IsProgram ts → ⊥
