-- What the bytes of a source split into, whatever document 01's limits say: tokens one after another, as far as they can be told. Definitions.
-- Each limit is judged over it by itself (x_verdict/Deserved). Rests on Lexemes and on the entries of TokenList.
use Rattle.std.specs.Prelude.{List, [], ◌∷◌, ℕ, zero, suc, ◌+◌, ◌-◌, eqb, drop}
use Rattle.arm_word.specs.Choice.{pick}
use Rattle.x_spelling.specs.Kinds as kinds
use Rattle.x_spelling.specs.Characters.{letter, digit, span, numeral}
use Rattle.x_tokens.specs.Refusals as refusal
use Rattle.x_spelling.specs.declared.Class.TheVariants.{Name, Digit}
use Rattle.x_tokens.specs.Lexemes.{at, lexeme}
use Rattle.x_tokens.specs.TokenList.{Entry}
use Rattle.x_tokens.specs.declared.Lexeme.{Lexeme}
use Rattle.x_tokens.specs.declared.Lexeme.TheVariants.{Separator, Token, Broken}

pub data Split : Type 0 where
  -- all bytes are read
  whole : Split
  -- at this place stands no token, so what follows can't be told
  broken : ℕ → Split
  -- a token; the number, 3 or 4, of the limit that it passes, or 0; and what follows
  next : Entry → ℕ → Split → Split

-- a name or a number at the front, however long or large: its kind, bytes and value
pub record Unlimited : Type 0 where
  pub kind : ℕ
  pub size : ℕ
  pub value : ℕ

abbrev pub unlimited : List ℕ → Unlimited
unlimited bs =
    pick (letter (at bs 0)) (record { kind = kinds.name; size = span Name bs; value = span Name bs })
    (pick (digit 10 (at bs 0)) (record { kind = kinds.number; size = span (Digit 10) bs; value = numeral 10 bs 0 })
    (record { kind = kinds.number; size = 1 + span (Digit 16) (drop 1 bs); value = numeral 16 (drop 1 bs) 0 }))

-- what the lexeme at place p comes to; a name or number that passes limit 3 or 4 is a token all the same; `rest n` is what the bytes after the first come to if n more of them are taken
abbrev pub marked : Lexeme → Unlimited → ℕ → (ℕ → Split) → Split
marked Separator u p rest = rest 0
marked (Token k n v) u p rest = next (record { kind = k; place = p; value = v }) 0 (rest (n - 1))
marked (Broken r) u p rest =
    pick (eqb (refusal.number r) refusal.broken_token) (broken p) (next (record { kind = u.kind; place = p; value = u.value }) (refusal.number r) (rest (u.size - 1)))

-- the bytes from place p on, the first `skip` of which a token has taken already
unfoldable pub split_from : List ℕ → ℕ → ℕ → Split
split_from [] skip p = whole
split_from (b ∷ bs) (suc skip) p = split_from bs skip (p + 1)
split_from (b ∷ bs) zero p = marked (lexeme (b ∷ bs)) (unlimited (b ∷ bs)) p (λ n. split_from bs n (p + 1))

unfoldable pub split : List ℕ → Split
split source = split_from source 0 0

-- all bytes are read, and these are the tokens
pub data AllTokens : Split → List Entry → Type 0 where
  none : AllTokens whole []
  also : {t : Entry} {k : ℕ} {s : Split} {ts : List Entry} → AllTokens s ts → AllTokens (next t k s) (t ∷ ts)

-- a refusal among 2 to 4, by number, and its place
pub data Flaw : Split → ℕ → ℕ → Type 0 where
  no_token : {p : ℕ} → Flaw (broken p) refusal.broken_token p
  here : {t : Entry} {k : ℕ} {s : Split} → Flaw (next t k s) k t.place
  later : {t : Entry} {k n p : ℕ} {s : Split} → Flaw s n p → Flaw (next t k s) n p

-- the place where the token with this number, from 0, starts, be it whole or broken
pub data Starts : Split → ℕ → ℕ → Type 0 where
  broken_there : {p : ℕ} → Starts (broken p) 0 p
  there : {t : Entry} {k : ℕ} {s : Split} → Starts (next t k s) 0 t.place
  after : {t : Entry} {k i p : ℕ} {s : Split} → Starts s i p → Starts (next t k s) (suc i) p
