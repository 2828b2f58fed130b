-- What of 2 to 5 a split deserves, what stands before what, and when an outcome agrees with a split. Definitions; a split has one list of tokens.
use Rattle.std.specs.Prelude.{◌≡◌, refl, List, ◌∷◌, ℕ, ◌+◌, ◌≤◌}
use Rattle.std.proofs.Common.{ap}
use Rattle.x_tokens.specs.TokenList.{Entry, Outcome, read, refused}
use Rattle.x_tokens.specs.Split as parts
use Rattle.x_tokens.specs.Split.{Split, whole, broken, next, Unlimited, unlimited, marked, split_from, split, AllTokens, Flaw, no_token, here, later, Starts, broken_there, there, after}

-- a split has one list of tokens
pub one_list : {s : Split} {ts us : List Entry} → AllTokens s ts → AllTokens s us → ts ≡ us
one_list parts.none parts.none = refl
one_list (parts.also {t = t} a) (parts.also b) = ap (λ (l : List Entry). t ∷ l) (one_list a b)

-- ── refusals 2 to 5 ──

-- what is deserved where c tokens stand before: a broken token, a limit that a token passes, or token 1,025
pub data Deserves (c : ℕ) (s : Split) : ℕ → ℕ → Type 0 where
  by_token : {n p : ℕ} → Flaw s n p → 2 ≤ n → Deserves c s n p
  by_count : {i p : ℕ} → Starts s i p → c + i ≡ 1024 → Deserves c s 5 p

-- "by place, smaller number first at one place": m at q doesn't go before n at p
pub record NotBefore (n p m q : ℕ) : Type 0 where
  pub place : p ≤ q
  pub number : p ≡ q → n ≤ m

-- what an outcome says of a split
abbrev pub Agrees : ℕ → Split → Outcome → Type 0
Agrees c s (read ts) = AllTokens s ts × ((n p : ℕ) → Deserves c s n p → ⊥)
Agrees c s (refused n p) = Deserves c s n p × ((m q : ℕ) → Deserves c s m q → NotBefore n p m q)
