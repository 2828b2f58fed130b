-- The tokens of a source as the grammar and the names see them. Definitions; rests on the entries of tokens.
use Rattle.std.specs.Prelude.{List, [], ◌∷◌, ℕ, zero, suc, leb, length, take, drop}
use Rattle.arm_word.specs.Choice.{pick}
use Rattle.x_tokens.specs.TokenList.{Entry}
use Rattle.x_grammar.specs.Grammar as grammar
use Rattle.x_grammar.specs.TokenArrays.{token_of}

-- the token with number t; past the last one an empty one
unfoldable pub entry_at : List Entry → ℕ → Entry
entry_at [] t = record { kind = 0; place = 0; value = 0 }
entry_at (e ∷ es) zero = e
entry_at (e ∷ es) (suc t) = entry_at es t

-- where token t stands, and its bytes: a name token's value is its length
abbrev pub place_of : List Entry → ℕ → ℕ
place_of ts t = (entry_at ts t).place

abbrev pub text_of : List ℕ → List Entry → ℕ → List ℕ
text_of source ts t = take (entry_at ts t).value (drop (entry_at ts t).place source)

-- the grammar's tokens, the first with number i
unfoldable pub symbols : List Entry → ℕ → List grammar.Token
symbols [] i = []
symbols (e ∷ es) i = token_of i e.kind e.value ∷ symbols es (suc i)

-- refusal 6: "it, or the source length": the place of the token that so many stand unread from, itself included
unfoldable pub unread_place : List Entry → ℕ → ℕ → ℕ
unread_place [] unread end = end
unread_place (e ∷ es) unread end = pick (leb (length (e ∷ es)) unread) e.place (unread_place es unread end)
