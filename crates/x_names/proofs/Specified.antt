-- What the specifications declare: as many rows as they make, as many words as their scope counts. Laws; rests on the scope and the declarations.
use Rattle.std.specs.Prelude.{◌≡◌, refl, ℕ, ◌+◌, length}
use Rattle.std.proofs.Common.{ap, ◌∙◌}
use mathlib.Core.List.{List, [], ◌∷◌}
use native.Mathlib.Omega.{arith}
use Rattle.x_grammar.specs.Grammar.{Specification, var, array, val, commented}
use Rattle.x_grammar.specs.RawRows.{declared_by, declared_rows}
use Rattle.x_program.specs.Tree.{Declaration, data_words}
use Rattle.x_names.specs.Scope.{Scope, declare, declare_all}
use Rattle.x_names.specs.Resolve.{declared, declarations}

module _ (text : ℕ → List ℕ) where
  count_one : (d : Specification) (s : Scope) (ds : List Declaration) → length (declared text d s ds) ≡ declared_by d + length ds
  count_one (var n) s ds = omega arith
  count_one (array n c) s ds = omega arith
  count_one (val n c) s ds = omega arith
  count_one (commented d) s ds = count_one d s ds

  pub count_declared : (ds : List Specification) (s : Scope) → length (declarations text ds s) ≡ declared_rows ds
  count_declared [] s = refl
  count_declared (d ∷ ds) s = count_one d s (declarations text ds (declare text d s)) ∙ ap (λ (n : ℕ). declared_by d + n) (count_declared ds (declare text d s))

  words_one : (d : Specification) (s : Scope) (ds : List Declaration) → (declare text d s).words + data_words ds ≡ s.words + data_words (declared text d s ds)
  unfolding data_words
  words_one (var n) s ds = omega arith
  words_one (array n c) s ds = omega arith
  words_one (val n c) s ds = omega arith
  words_one (commented d) s ds = words_one d s ds

  pub words_declared : (ds : List Specification) (s : Scope) → (declare_all text ds s).words ≡ s.words + data_words (declarations text ds s)
  unfolding data_words
  words_declared [] s = omega arith
  words_declared (d ∷ ds) s = words_declared ds (declare text d s) ∙ words_one d s (declarations text ds (declare text d s))
