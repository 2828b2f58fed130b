-- How many words a name is compared with at most, and what a test of every word says of what a name stands for. Definitions and laws; rests on Words and WordLookup.
use Rattle.std.specs.Prelude.{◌≡◌, Bool, true, false, List, [], ◌∷◌, ℕ, suc, ◌+◌, ◌≤◌, length, Some}
use Rattle.std.proofs.Common.{arith}
use Rattle.arm_word.specs.Choice.{pick}
use Rattle.arm_word.specs.ChoiceLaws.{by_test, both}
use Rattle.x_spelling.specs.Kinds.{name}
use Rattle.x_spelling.specs.Words.{same, is, Entry, first_match, token_of}
use Rattle.x_spelling.specs.WordLookup.{looked, compare}
use Rattle.x_spelling.specs.declared.Word.{Word}

pub compared_among : (es : List Entry) (w : List ℕ) (n : ℕ) → (compare es w n).compared ≤ n + length es
unfolding compare
compared_among [] w n = omega arith
compared_among (e ∷ es) w n = let h = compared_among es w (suc n) in
    by_test (λ t. (pick t (looked (Some e.token) (suc n)) (compare es w (suc n))).compared ≤ n + suc (length es)) (same w e.bytes) (λ _. omega arith) (λ _. omega arith)

-- a test that every word of a list passes
unfoldable pub every : (Entry → Bool) → List Entry → Bool
every test [] = true
every test (e ∷ es) = pick (test e) (every test es) false

-- a test that every reserved word's token passes, and a name's, is passed by what a name's bytes stand for
pub word_has : (test : Word → Bool) (w : List ℕ) (es : List Entry) → every (λ (e : Entry). test e.token) es ≡ true → test (is name (length w)) ≡ true
    → test (token_of w (first_match es w)) ≡ true
unfolding every first_match
word_has test w [] t n = n
word_has test w (e ∷ es) t n = let (p, q) = both (test e.token) _ t in
    by_test (λ b. test (token_of w (pick b (Some e.token) (first_match es w))) ≡ true) (same w e.bytes) (λ _. p) (λ _. word_has test w es q n)
