-- The last six diadic operators by their numbers, as Table's `diadic_of` has them; what a result is by the operator that was found. Definition and laws.
use Rattle.std.specs.Prelude.{◌≡◌, ℕ, eqb}
use Rattle.std.proofs.Common.{ap, ◌∙◌}
use Rattle.arm_word.specs.Choice.{pick}
use Rattle.x_program.specs.Tree.{Monadic, Diadic, equal, unequal, less, at_most, greater, at_least}
use Rattle.x_program.specs.Rows.{diadic_number}
use Rattle.x_program.specs.Table.{monadic_of, diadic_of}
use Rattle.x_meaning.specs.Operators.{work_monadic, work_diadic}

-- "= <> < <= > >="
abbrev pub comparison_of : ℕ → Diadic
comparison_of o =
    pick (eqb o (diadic_number equal)) equal
    (pick (eqb o (diadic_number unequal)) unequal
    (pick (eqb o (diadic_number less)) less
    (pick (eqb o (diadic_number at_most)) at_most
    (pick (eqb o (diadic_number greater)) greater at_least))))

-- ── a result, by the operator that number o was found to stand for ──

pub as_monadic : (m : Monadic) (o x : ℕ) {r : ℕ} → r ≡ work_monadic m x → m ≡ monadic_of o → r ≡ work_monadic (monadic_of o) x
as_monadic m o x e h = e ∙ ap (λ (n : Monadic). work_monadic n x) h

-- one of the last six
pub as_comparison : (m : Diadic) (o x y : ℕ) {r : ℕ} → r ≡ work_diadic m x y → m ≡ comparison_of o → r ≡ work_diadic (comparison_of o) x y
as_comparison m o x y e h = e ∙ ap (λ (n : Diadic). work_diadic n x y) h

pub as_diadic : (m : Diadic) (o x y : ℕ) {r : ℕ} → r ≡ work_diadic m x y → m ≡ diadic_of o → r ≡ work_diadic (diadic_of o) x y
as_diadic m o x y e h = e ∙ ap (λ (n : Diadic). work_diadic n x y) h
