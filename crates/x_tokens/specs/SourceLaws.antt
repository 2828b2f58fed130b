-- What later passes rest on: each token of a source lies in it, kinds and values go together, places ascend; what a refusal's number and place can be. Definitions.
use Rattle.std.specs.Prelude.{◌≡◌, true, List, [], ◌∷◌, ℕ, ◌+◌, ◌<◌, ◌≤◌}
use Rattle.x_spelling.specs.Kinds as kinds
use Rattle.x_tokens.specs.TokenList.{Entry, Outcome, read, refused}
use Rattle.x_tokens.specs.LexemeLaws.{known, matched, Fits, Good, lexeme_good}

-- a token of a source of `size` bytes
pub record Lies (size : ℕ) (t : Entry) : Type 0 where
  pub inside : t.place < size
  pub known : Rattle.x_tokens.specs.LexemeLaws.known t.kind ≡ true
  pub number : t.kind ≡ kinds.number → t.value < 4294967296
  pub name : t.kind ≡ kinds.name → (1 ≤ t.value) × (t.value ≤ 32) × (t.place + t.value ≤ size)
  pub other : ¬ (t.kind ≡ kinds.number) → ¬ (t.kind ≡ kinds.name) → t.value ≡ 0

-- tokens of a source of `size` bytes, at ascending places from the second number on
pub data Placed (size : ℕ) : ℕ → List Entry → Type 0 where
  none : {p : ℕ} → Placed size p []
  some : {p : ℕ} (t : Entry) {ts : List Entry} → p ≤ t.place → Lies size t → Placed size (t.place + 1) ts → Placed size p (t ∷ ts)

-- an outcome for a source of `size` bytes, of which the bytes from p on were read
abbrev pub Sound : ℕ → ℕ → Outcome → Type 0
Sound size p (read ts) = Placed size p ts
Sound size p (refused n q) = (1 ≤ n) × (n ≤ 5) × (q ≤ size) × (q ≤ 16384)
