-- Laws of lines: what is added in parts is added whole, a word's digits are ten at most, and numbers come back from their digits.
-- Rests on Text; assumes nothing.
use Rattle.std.specs.Prelude.{◌≡◌, refl, List, [], ◌∷◌, ◌++◌, ℕ, zero, suc, ◌+◌, ◌/◌, ◌%◌, ◌^◌, ◌≤◌, ◌<◌, length, take, set, ltb}
use Rattle.std.proofs.Common.{sym, ap, ◌∙◌, append_assoc, append-nil, add-one, ltb-true, ltb-false, length-append, length-take, take_all, take-suc-set}
use native.Mathlib.Omega.{arith, pow_step}
use Rattle.std.proofs.lemmas.List.{take-append-le}
use Rattle.arm_word.specs.Choice.{pick}
use Rattle.arm_word.specs.ChoiceLaws.{by_test}
use Rattle.text_lines.specs.Text.{fitted, digit, digits, decimal, long_decimal, summary}

-- what was cut off before is cut off after
pub fitted_then : (xs ys : List ℕ) → fitted (fitted xs ++ ys) ≡ fitted (xs ++ ys)
fitted_then xs ys = go 128 xs
  where
    go : (n : ℕ) (l : List ℕ) → take n (take n l ++ ys) ≡ take n (l ++ ys)
    go zero l = refl
    go (suc n) [] = refl
    go (suc n) (x ∷ l) = ap (λ (r : List ℕ). x ∷ r) (go n l)

-- ── numbers in base 10 ──

pub length_digits : (k n : ℕ) → length (digits k n) ≤ suc k
unfolding digits
length_digits zero n = omega arith
length_digits (suc k) n =
    by_test (λ t. length (pick t (digit n ∷ []) (digits k (n / 10) ++ (digit (n % 10) ∷ []))) ≤ suc (suc k)) (ltb n 10)
    (λ _. omega arith)
    (λ _. simp length-append (omega (arith, length_digits k (n / 10))))

-- one more division changes nothing
pub enough : (k n : ℕ) → n < 10 ^ suc k → digits k n ≡ digits (suc k) n
unfolding digits
enough zero n h =
    by_test (λ t. ltb n 10 ≡ t → digit (n % 10) ∷ [] ≡ pick t (digit n ∷ []) ((digit (n / 10 % 10) ∷ []) ++ (digit (n % 10) ∷ []))) (ltb n 10)
    (λ _ e. let m : n % 10 ≡ n = omega arith in rw m)
    (λ _ e. absurd (omega (arith, ltb-false n 10 e)))
    refl
enough (suc k) n h =
    by_test (λ t. pick t (digit n ∷ []) (digits k (n / 10) ++ (digit (n % 10) ∷ [])) ≡ pick t (digit n ∷ []) (digits (suc k) (n / 10) ++ (digit (n % 10) ∷ []))) (ltb n 10)
    (λ _. refl)
    (λ _. ap (λ (r : List ℕ). r ++ (digit (n % 10) ∷ [])) (enough k (n / 10) (omega (arith, pow_step 10 (suc k)))))

-- the last digit apart
pub digits_step : (k n : ℕ) → 10 ≤ n → n < 10 ^ suc (suc k) → digits (suc k) n ≡ digits (suc k) (n / 10) ++ (digit (n % 10) ∷ [])
unfolding digits
digits_step k n h w =
    by_test (λ t. ltb n 10 ≡ t → pick t (digit n ∷ []) (digits k (n / 10) ++ (digit (n % 10) ∷ [])) ≡ digits (suc k) (n / 10) ++ (digit (n % 10) ∷ [])) (ltb n 10)
    (λ _ e. absurd (omega (arith, ltb-true n 10 e)))
    (λ _ e. ap (λ (r : List ℕ). r ++ (digit (n % 10) ∷ [])) (enough k (n / 10) (omega (arith, pow_step 10 (suc k)))))
    refl

pub digits_one : (k n : ℕ) → n < 10 → digits (suc k) n ≡ digit n ∷ []
unfolding digits
digits_one k n h =
    by_test (λ t. ltb n 10 ≡ t → pick t (digit n ∷ []) (digits k (n / 10) ++ (digit (n % 10) ∷ [])) ≡ digit n ∷ []) (ltb n 10)
    (λ _ e. refl)
    (λ _ e. absurd (omega (arith, ltb-false n 10 e)))
    refl

-- the same of a word
pub decimal_step : (n : ℕ) → 10 ≤ n → n < 10000000000 → decimal n ≡ decimal (n / 10) ++ (digit (n % 10) ∷ [])
decimal_step = digits_step 8

pub decimal_one : (n : ℕ) → n < 10 → decimal n ≡ digit n ∷ []
decimal_one = digits_one 8

-- a word as a number of 64 bits
pub word_decimal : (n : ℕ) → n < 4294967296 → long_decimal n ≡ decimal n
word_decimal n h = sym (more 10 9 (omega arith))
  where
    up : ℕ → ℕ → ℕ
    up zero k = k
    up (suc j) k = up j (suc k)

    more : (j k : ℕ) → n < 10 ^ suc k → digits k n ≡ digits (up j k) n
    more zero k l = refl
    more (suc j) k l = enough k n l ∙ more j (suc k) (omega (arith, pow_step 10 (suc k)))

-- ── one byte more ──

pub put_fits : (bytes : List ℕ) (at b : ℕ) → length bytes ≡ 128 → at < 128 → take (at + 1) (set bytes at b) ≡ fitted (take at bytes ++ (b ∷ []))
put_fits bytes at b e h =
    let lt : at < length bytes = omega arith in
    let short : length (take at bytes ++ (b ∷ [])) ≤ 128 = simp (length-append, length-take) (omega arith) in
    rw (add-one, take-suc-set bytes at b lt) (sym (take_all 128 (take at bytes ++ (b ∷ [])) short))

pub put_full : (bytes : List ℕ) (at : ℕ) (xs : List ℕ) → length bytes ≡ 128 → 128 ≤ at → take at bytes ≡ fitted (take at bytes ++ xs)
put_full bytes at xs e h =
    let all : take at bytes ≡ bytes = take_all at bytes (omega arith) in
    let whole : take 128 bytes ≡ bytes = take_all 128 bytes (omega arith) in
    let cut : take 128 (bytes ++ xs) ≡ take 128 bytes = take-append-le 128 bytes xs (omega arith) in
    rw all (sym (cut ∙ whole))

-- nothing more
pub put_none : (bytes : List ℕ) (at : ℕ) → length bytes ≡ 128 → take at bytes ≡ fitted (take at bytes ++ [])
put_none bytes at e =
    let short : length (take at bytes) ≤ 128 = simp length-take (omega arith) in
    rw append-nil (sym (take_all 128 (take at bytes) short))

-- ── one part after another ──

-- a line l with xs added is m, and m with ys added is n: so l with both added
pub joined : (l xs ys m n : List ℕ) → m ≡ fitted (l ++ xs) → n ≡ fitted (m ++ ys) → n ≡ fitted (l ++ (xs ++ ys))
joined l xs ys m n p q = q ∙ ap (λ (r : List ℕ). fitted (r ++ ys)) p ∙ fitted_then (l ++ xs) ys ∙ ap fitted (append_assoc l xs ys)

-- ── the seven lines ──

-- they fit in a line
pub summary_fits : (s p t r d n c : ℕ) → fitted (summary s p t r d n c) ≡ summary s p t r d n c
unfolding summary
summary_fits s p t r d n c =
    take_all 128 (summary s p t r d n c)
    (simp length-append (omega (arith, length_digits 9 s, length_digits 9 p, length_digits 9 t, length_digits 9 r, length_digits 9 d, length_digits 9 n, length_digits 9 c)))
