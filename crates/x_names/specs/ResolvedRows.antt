-- The syntax table from the raw rows: each row with its name resolved. Definitions, and a law of rows after rows.
use Rattle.std.proofs.Math.Path.{◌≡◌, refl, sym, ap}
use Rattle.std.proofs.Common.{◌∙◌, arith}
use Rattle.std.specs.Prelude.{Bool, length, eqb}
use Rattle.std.proofs.Math.Bool.{true}
use mathlib.Core.List.{List, [], ◌∷◌, ◌++◌, append_assoc}
use Prim.Native.Nat.{ℕ, zero, suc, ◌*◌}
use Rattle.arm_word.specs.Choice.{pick}
use Rattle.x_program.specs.Layout.{row_words}
use Rattle.x_program.specs.Layout as layout
use Rattle.x_program.specs.Rows.{row}
use Rattle.x_names.specs.Scope.{Meaning, unknown, variable, array, constant, Scope, meaning_of}

-- the row that declares a name, 0 for none
abbrev pub declared_row : Meaning → ℕ
declared_row unknown = 0
declared_row (variable v) = v.row
declared_row (array a) = a.row
declared_row (constant w) = 0

-- a name used as an operand: "4 variable (its row)"; "val makes no row": its use is "3 number (word)"
abbrev pub value_row : Meaning → List ℕ
value_row unknown = row layout.variable 0 0 0
value_row (variable v) = row layout.variable v.row 0 0
value_row (array a) = row layout.variable a.row 0 0
value_row (constant w) = row layout.number w 0 0

-- the kinds whose field a is a name, but for 4: "5 element", "10 assign", "11 assign element"
abbrev pub names_one : ℕ → Bool
names_one k = pick (eqb k layout.element) true (pick (eqb k layout.assign) true (eqb k layout.assign_element))

module _ (text : ℕ → List ℕ) where
  abbrev pub resolve_row : Scope → ℕ → ℕ → ℕ → ℕ → List ℕ
  resolve_row s k a b c = pick (eqb k layout.variable) (value_row (meaning_of text s a)) (row k (pick (names_one k) (declared_row (meaning_of text s a)) a) b c)

  -- row by row; a part of a row makes none
  unfoldable pub resolve_rows : Scope → List ℕ → List ℕ
  resolve_rows s [] = []
  resolve_rows s (k ∷ []) = []
  resolve_rows s (k ∷ a ∷ []) = []
  resolve_rows s (k ∷ a ∷ b ∷ []) = []
  resolve_rows s (k ∷ a ∷ b ∷ c ∷ t) = resolve_row s k a b c ++ resolve_rows s t

  -- rows after rows
  pub resolve_append : (s : Scope) (n : ℕ) (xs ys : List ℕ) → length xs ≡ row_words * n → resolve_rows s (xs ++ ys) ≡ resolve_rows s xs ++ resolve_rows s ys
  unfolding resolve_rows
  resolve_append s zero [] ys h = refl
  resolve_append s zero (k ∷ xs) ys h = absurd (omega arith)
  resolve_append s (suc n) [] ys h = absurd (omega arith)
  resolve_append s (suc n) (k ∷ []) ys h = absurd (omega arith)
  resolve_append s (suc n) (k ∷ a ∷ []) ys h = absurd (omega arith)
  resolve_append s (suc n) (k ∷ a ∷ b ∷ []) ys h = absurd (omega arith)
  resolve_append s (suc n) (k ∷ a ∷ b ∷ c ∷ xs) ys h =
      ap (λ (t : List ℕ). resolve_row s k a b c ++ t) (resolve_append s n xs ys (omega arith)) ∙ sym (append_assoc (resolve_row s k a b c) (resolve_rows s xs) (resolve_rows s ys))
