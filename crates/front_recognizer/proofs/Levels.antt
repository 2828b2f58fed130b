-- Where no level reached the limit the tree nests within it, and where one did it is too deep: so it stays, token by token. Laws; rests on Levels in specs/.
use Rattle.std.specs.Prelude.{◌≡◌, refl, Bool, true, false, ℕ, suc, eqb}
use Rattle.std.proofs.Common.{sym, ap, subst, ◌∙◌, arith, ne_eqb, eqb-true}
use Rattle.std.proofs.lemmas.Bool.{eqb-false}
use Rattle.arm_word.specs.ChoiceLaws.{by_test}
use Rattle.x_grammar.specs.Grammar.{Token}
use Rattle.x_grammar.specs.Automaton.{State}
use Rattle.x_grammar.specs.Automaton.{go}
use Rattle.x_grammar.specs.Automaton.{step}
use Rattle.x_grammar.specs.TreeDepth.{depth_limit}
use Rattle.front_recognizer.specs.Pushdown.{configuration, deep_by}
use Rattle.front_recognizer.specs.Levels.{Low, level, Moved, To, to, counts, counts_level, shallow_level, Levels}

at_limit : (deep : Bool) → deep_by deep depth_limit ≡ true
at_limit deep = refl

elsewhere : (deep : Bool) (l : ℕ) → (l ≡ depth_limit → ⊥) → deep_by deep l ≡ deep
elsewhere deep l h = rw (ne_eqb l depth_limit h)

module _ (s s' : State) (t : Token) (e : step s t ≡ go s') where
  moved : Moved s s'
  moved = subst (To s) e (to s t)

  reached : (deep : Bool) → (configuration s').level ≡ depth_limit → Levels (deep_by deep (configuration s').level) s'
  reached deep q = subst (λ (b : Bool). Levels b s') (sym (ap (deep_by deep) q ∙ at_limit deep)) (λ x. omega (arith, q, counts_level s', counts (level s'), shallow_level s' x))

  below : (deep : Bool) → Low (suc (level s')) → Levels deep s → Levels deep s'
  below false b h = moved.0 h b
  below true b h = λ x. h (moved.1 x)

  pub levels_next : (deep : Bool) → Levels deep s → Levels (deep_by deep (configuration s').level) s'
  levels_next deep h =
      by_test (λ (b : Bool). Levels (deep_by deep (configuration s').level) s') (eqb (configuration s').level depth_limit) (λ q. reached deep (eqb-true _ _ q))
      (λ q. let n = eqb-false _ _ q in subst (λ (b : Bool). Levels b s') (sym (elsewhere deep (configuration s').level n)) (below deep (omega (arith, n, counts_level s', counts (level s'))) h))
