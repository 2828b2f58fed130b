-- The token list of a source, or the refusal among 1 to 5. Definitions.
-- Rests on Lexemes.
use Rattle.std.specs.Prelude.{List, [], ◌∷◌, ℕ, zero, suc, ◌+◌, ◌-◌, ◌≤◌, leb, length, get_or, Result, Ok, Err}
use Rattle.arm_word.specs.Choice.{pick}
use Rattle.x_tokens.specs.Refusals as refusal
use Rattle.x_tokens.specs.Lexemes.{lexeme}
use Rattle.x_tokens.specs.declared.Lexeme.{Lexeme}
use Rattle.x_tokens.specs.declared.Lexeme.TheVariants.{Separator, Token, Broken}
use Rattle.x_tokens.specs.declared.refusal.Refusal.{Refusal}

-- a token: its kind by number, the place of its first byte, and a number's word, a name's length in bytes, else 0
pub record Entry : Type 0 where
  pub kind : ℕ
  pub place : ℕ
  pub value : ℕ

pub data Outcome : Type 0 where
  read : List Entry → Outcome
  refused : ℕ → ℕ → Outcome

-- one token more at the front, of what is not refused
abbrev pub also : Entry → Outcome → Outcome
also t (read ts) = read (t ∷ ts)
also t (refused n p) = refused n p

-- "2 to 5 by place, smaller number first at one place": what the lexeme at place p comes to after `count` tokens, where `rest n c` is
-- what the bytes after the first come to if n more of them are taken and c tokens stand before them.
-- Refusal 5: "more than 1,024 tokens, comments counted", at "first byte of token 1,025"
abbrev pub taken : Lexeme → ℕ → ℕ → (ℕ → ℕ → Outcome) → Outcome
taken Separator p count rest = rest 0 count
taken (Broken r) p count rest = refused (refusal.number r) p
taken (Token k n v) p count rest =
    pick (leb 1024 count) (refused refusal.many_tokens p)
    (also (record { kind = k; place = p; value = v }) (rest (n - 1) (count + 1)))

-- the bytes from place p on, the first `skip` of which a token has taken already, after `count` tokens
unfoldable pub scan : List ℕ → ℕ → ℕ → ℕ → Outcome
scan [] skip p count = read []
scan (b ∷ bs) (suc skip) p count = scan bs skip (p + 1) count
scan (b ∷ bs) zero p count = taken (lexeme (b ∷ bs)) p count (λ n c. scan bs n (p + 1) c)

-- Limits and refusals: "1 comes first; then 2 to 5"; refusal 1: "source above 16,384 bytes", place 0
unfoldable pub outcome : List ℕ → Outcome
outcome source = pick (leb (length source) 16384) (scan source 0 0 0) (refused refusal.long_source 0)

-- n entries of the token arrays from i on, as tokens
unfoldable pub entries : List ℕ → List ℕ → List ℕ → ℕ → ℕ → List Entry
entries ks ps vs i zero = []
entries ks ps vs i (suc n) = record { kind = get_or ks i 0; place = get_or ps i 0; value = get_or vs i 0 } ∷ entries ks ps vs (suc i) n

-- what the answer of `tokens` says with its arrays
abbrev pub answer : Result ℕ Refusal → List ℕ → List ℕ → List ℕ → Outcome
answer (Ok n) ks ps vs = read (entries ks ps vs 0 n)
answer (Err r) ks ps vs = refused (refusal.number r.reason) r.place

-- how many tokens an answer can give
abbrev pub Few : Result ℕ Refusal → Type 0
Few (Ok n) = n ≤ 1024
Few (Err r) = Unit {0}
