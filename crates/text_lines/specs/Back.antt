-- Numbers come back from their digits. Definitions and laws; rests on Text.
-- Assumes nothing.
use Rattle.std.specs.Prelude.{◌≡◌, refl, List, [], ◌∷◌, ◌++◌, ℕ, zero, suc, ◌+◌, ◌*◌, ◌-◌, ◌/◌, ◌%◌, ◌^◌, ◌<◌, ltb}
use Rattle.std.proofs.Common.{sym, ◌∙◌, ltb-true, ltb-false, lt-ltb, le-ltb}
use native.Mathlib.Omega.{arith, pow_step}
use Rattle.std.proofs.Math.Nat.{div-div-eq-div-mul}
use Rattle.arm_word.specs.Choice.{pick}
use Rattle.arm_word.specs.ChoiceLaws.{by_test}
use Rattle.text_lines.specs.Text.{digit, hexadecimal, digits, decimal}

-- a digit's value
abbrev pub value : ℕ → ℕ
value d = pick (ltb d 58) (d - 48) (d - 55)

-- the number that digits in a base go on with, from what stands before them
unfoldable pub number : ℕ → ℕ → List ℕ → ℕ
number b n [] = n
number b n (d ∷ ds) = number b (n * b + value d) ds

pub value_digit : (d : ℕ) → d < 16 → value (digit d) ≡ d
value_digit d h =
    by_test (λ t. ltb d 10 ≡ t → value (pick t (48 + d) (55 + d)) ≡ d) (ltb d 10)
    (λ _ e. let s : d < 10 = ltb-true d 10 e in rw (lt-ltb (48 + d) 58 (omega arith)) (omega arith))
    (λ _ e. let s = ltb-false d 10 e in rw (le-ltb (55 + d) 58 (omega arith)) (omega arith))
    refl

-- one digit more
onward : (m n : ℕ) → m ≡ n / 16 → m * 16 + n % 16 ≡ n
onward m n e = omega arith

pub hexadecimal_back : (n : ℕ) → n < 65536 → number 16 0 (hexadecimal n) ≡ n
unfolding number
hexadecimal_back n h =
    rw (value_digit (n / 4096 % 16) (omega arith), value_digit (n / 256 % 16) (omega arith), value_digit (n / 16 % 16) (omega arith), value_digit (n % 16) (omega arith))
    (onward _ n (onward _ (n / 16) (onward _ (n / 256) (top ∙ sym (div-div-eq-div-mul n 256 16)) ∙ sym (div-div-eq-div-mul n 16 16))))
  where
    top : 0 * 16 + n / 4096 % 16 ≡ n / 4096
    top = omega arith

pub number_append : (b n : ℕ) (xs ys : List ℕ) → number b n (xs ++ ys) ≡ number b (number b n xs) ys
unfolding number
number_append b n [] ys = refl
number_append b n (x ∷ xs) ys = number_append b (n * b + value x) xs ys

pub digits_back : (k n : ℕ) → n < 10 ^ suc k → number 10 0 (digits k n) ≡ n
unfolding number digits
digits_back zero n h = rw (value_digit (n % 10) (omega arith)) (omega arith)
digits_back (suc k) n h =
    by_test (λ t. ltb n 10 ≡ t → number 10 0 (pick t (digit n ∷ []) (digits k (n / 10) ++ (digit (n % 10) ∷ []))) ≡ n) (ltb n 10)
    (λ _ e. let s : n < 10 = ltb-true n 10 e in rw (value_digit n (omega arith)) (omega arith))
    (λ _ _.
    number_append 10 0 (digits k (n / 10)) (digit (n % 10) ∷ [])
    ∙ rw (digits_back k (n / 10) (omega (arith, pow_step 10 (suc k))), value_digit (n % 10) (omega arith)) (omega arith))
    refl

pub decimal_back : (n : ℕ) → n < 4294967296 → number 10 0 (decimal n) ≡ n
decimal_back n h = digits_back 9 n (omega arith)
