-- `front_names_judge::judge` meets its contract. Each way through the code makes the same choices as the definition.
-- Assumes nothing.
use Rattle.x_spelling.specs.Kinds as kind
use Rattle.x_tokens.specs.Refusals as refusal
use Rattle.x_tokens.specs.TokenLaws.{not_zero}
use Rattle.x_tokens.specs.declared.refusal.Reason.{Reason}
use Rattle.x_names.specs.Scope.{Meaning}
use Rattle.x_names.specs.Complaints.{is_known, when}
use mathlib.Core.List.{[], ◌∷◌, ◌++◌}
use mathlib.Core.Path.{◌≡◌, refl, sym, ◌∙◌}
use Prim.Native.Nat.{ℕ}
use Rattle.std.specs.Prelude.{Bool, true, false, eqb}
use Rattle.std.proofs.lemmas.Result.{err_from_is_err_and}
use Rattle.arm_word.specs.Choice.{pick}
use Rattle.front_names_table.specs.View.{meant}
use borrow.Author.Tests.{eq-eqb, ne_eqb}
use Rattle.front_names_judge.specs.Judge.{complaints_by, listed, over, first_append, first_none}
use Rattle.front_names_judge.proofs.judge.Goals as goal

both_ways : {A : Type 0} (b : Bool) (x : A) → pick b x x ≡ x
both_ways true x = refl
both_ways false x = refl

-- a name and then a constant without a word
without_constant : (k : ℕ) (m : Meaning) (r : Reason) (names words p q : ℕ) → ¬ (k ≡ kind.var)
    → complaints_by k m (refusal.number r) 0 names words p q
    ≡ listed p (when (is_known m) refusal.declared_twice ++ when (over names words 0) refusal.too_much) ++ listed q (refusal.number r ∷ [])
unfolding complaints_by
without_constant k m r names words p q h = rw (ne_eqb k kind.var h, not_zero r) (both_ways (eqb k kind.array) _)

pub returns-then-k-eq-VAR : goal.returns-then-k-eq-VAR
unfolding complaints_by
returns-then-k-eq-VAR c = rw (eq-eqb c.args.k kind.var c.if-k-eq-VAR.true) c.new_name.ensures

pub returns-then-k-eq-ARRAY : goal.returns-then-k-eq-ARRAY
unfolding complaints_by
returns-then-k-eq-ARRAY c =
    rw (ne_eqb c.args.k kind.var c.if-k-eq-VAR.false, eq-eqb c.args.k kind.array c.if-k-eq-ARRAY.true, c.in-Ok.is) (c.new_array.ensures ∙ sym (first_none _))

pub returns-else-k-eq-ARRAY : goal.returns-else-k-eq-ARRAY
unfolding complaints_by
returns-else-k-eq-ARRAY c =
    rw (ne_eqb c.args.k kind.var c.if-k-eq-VAR.false, ne_eqb c.args.k kind.array c.if-k-eq-ARRAY.false, c.in-Ok.is) (c.new_name-else-k-eq-ARRAY.ensures ∙ sym (first_none _))

pub returns-in_ok-new_name-in-Err : goal.returns-in_ok-new_name-in-Err
returns-in_ok-new_name-in-Err c =
    rw (c.in-Err.is, without_constant c.args.k (meant c.args.m) c.in-Err.reason c.args.names c.args.words c.args.p c.args.q c.if-k-eq-VAR.false, first_append, ← c.in_ok-new_name-in-Err.ensures)

pub returns-in_err-new_name-in-Err : goal.returns-in_err-new_name-in-Err
returns-in_err-new_name-in-Err c =
    let e = err_from_is_err_and c.from_residual.result c.from_residual.ensures.1 in
    rw (
      e.1,
      e.2,
      c.in-Err.is,
      without_constant c.args.k (meant c.args.m) c.in-Err.reason c.args.names c.args.words c.args.p c.args.q c.if-k-eq-VAR.false,
      first_append,
      ← c.in_err-new_name-in-Err.ensures,
    )
