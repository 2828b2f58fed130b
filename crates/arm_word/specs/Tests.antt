-- A chain of tests against the code's own: `search tests` takes one test off after another. Laws; assumes nothing.
-- Rests on Choice.
use Rattle.std.specs.Prelude.{◌≡◌, Bool, true, false, refl}
use Rattle.std.proofs.Common.{sym, ◌∙◌, eq-eqb, ne_eqb, le-leb, lt-ltb, le-ltb}
use Rattle.arm_word.specs.ChoiceLaws.{pick_t, pick_f}
use Rattle.std.proofs.lemmas.Bool.{lt-leb}

pub test_t : {a b : Bool} → a ≡ b → a ≡ true → b ≡ true
test_t p q = sym p ∙ q

pub test_f : {a b : Bool} → a ≡ b → a ≡ false → b ≡ false
test_f p q = sym p ∙ q

pub itself {ℓ} : {A : Type ℓ} {x : A} → x ≡ x
itself = refl

pub ruleset tests = (pick_t, pick_f, eq-eqb, ne_eqb, le-leb, lt-leb, lt-ltb, le-ltb, test_t, test_f, itself)
