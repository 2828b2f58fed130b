-- The ways to take a choice by a test apart. Laws; assumes nothing.
use Rattle.std.specs.Prelude.{◌≡◌, ℕ, Bool, true, false, ◌&&◌, ◌⊎◌, refl}
use Rattle.std.proofs.Common.{inl, inr, arith}
use Rattle.arm_word.specs.Choice.{pick}

-- a test has one of two answers, each with its equation
pub by_test {ℓ} : (P : Bool → Type ℓ) (b : Bool) → (b ≡ true → P true) → (b ≡ false → P false) → P b
by_test P true f g = f refl
by_test P false f g = g refl

-- false either way
pub pick_false : (b : Bool) → pick b false false ≡ false
pick_false true = refl
pick_false false = refl

-- both of two tests, as a choice
pub pick_and : (a b : Bool) → pick a b false ≡ (a && b)
pick_and true b = refl
pick_and false b = refl

-- both parts of a test that is true
pub both : (a b : Bool) → pick a b false ≡ true → (a ≡ true) × (b ≡ true)
both true b e = (refl, e)
both false b e = absurd (let z : ◌≡◌ {A = ℕ} 0 1 = cc in omega arith)

-- one part of a test that is true
pub either : (a b : Bool) → pick a true b ≡ true → (a ≡ true) ⊎ (b ≡ true)
either true b e = inl refl
either false b e = inr e

-- a choice that was made, against what the code answers: what `search` takes one test off by
pub pick_t {ℓ} : {A : Type ℓ} (z x y : A) (b : Bool) → b ≡ true → z ≡ x → z ≡ pick b x y
pick_t z x y b e h = rw e h

pub pick_f {ℓ} : {A : Type ℓ} (z x y : A) (b : Bool) → b ≡ false → z ≡ y → z ≡ pick b x y
pick_f z x y b e h = rw e h
