-- The recognizer's state at one token more. Laws; rests on Recognized in specs/ and on Levels.
use Rattle.std.specs.Prelude.{◌≡◌, Bool, ℕ, ◌+◌, ◌<◌, length, get_or}
use Rattle.std.proofs.Math.Path.{refl, ap, subst}
use Rattle.std.proofs.Common.{sym, ◌∙◌, arith}
use mathlib.Core.List.{List, ◌∷◌}
use Rattle.x_grammar.specs.Grammar.{Token}
use Rattle.x_grammar.specs.Automaton.{Move, go, none, step}
use Rattle.x_grammar.specs.Automaton.{onward, run, reads}
use Rattle.x_grammar.specs.TokenArrays.{token_of, unread}
use Rattle.x_grammar.specs.Unread.{unread_cons, length_unread}
use Rattle.front_recognizer.specs.declared.mode.Mode.TheVariants as mode
use Rattle.front_recognizer.specs.Pushdown.{Configuration, advance, doing, deep_by}
use Rattle.front_recognizer.specs.Follows.{Agrees, follows}
use Rattle.front_recognizer.specs.Levels.{Levels}
use Rattle.front_recognizer.proofs.Levels.{levels_next}
use Rattle.front_recognizer.specs.Recognized.{not_refused, Says, refused_at, Stands}

module _ (kinds values : List ℕ) where
  module _ (i : ℕ) (b : i < length kinds) (c c' : Configuration) (deep : Bool) (h : Stands kinds values i c deep) (e : c' ≡ advance c (get_or kinds i 0)) where
    abbrev t : Token
    t = token_of i (get_or kinds i 0) (get_or values i 0)

    onto : Agrees (step h.state t) (doing c (get_or kinds i 0)) c.stack
    onto = subst (λ (d : Configuration). Agrees (step h.state t) (doing d (get_or kinds i 0)) d.stack) h.same (follows h.state i (get_or kinds i 0) (get_or values i 0))

    after : (m : Move) → step h.state t ≡ m → reads (unread kinds values 0) ≡ onward m (unread kinds values i) (run (unread kinds values (i + 1)))
    unfolding run
    after m q = h.comes ∙ ap (λ (w : List Token). run w h.state) (unread_cons kinds values i b)
        ∙ ap (λ (m : Move). onward m (t ∷ unread kinds values (i + 1)) (run (unread kinds values (i + 1)))) q
        ∙ ap (λ (w : List Token). onward m w (run (unread kinds values (i + 1)))) (sym (unread_cons kinds values i b))

    pub stands_bad : c'.mode ≡ mode.Refused → Says (length kinds) (reads (unread kinds values 0)) (refused_at i)
    stands_bad z = by (step h.state t) refl onto
      where
        by : (m : Move) → step h.state t ≡ m → Agrees m (doing c (get_or kinds i 0)) c.stack → Says (length kinds) (reads (unread kinds values 0)) (refused_at i)
        by none q g = (unread kinds values i, after none q, omega (arith, b, length_unread kinds values i))
        by (go s) q g = absurd (not_refused s (ap (λ (d : Configuration). d.mode) (sym g ∙ sym e) ∙ z))

    pub stands_next : ¬ (c'.mode ≡ mode.Refused) → Stands kinds values (i + 1) c' (deep_by deep c'.level)
    stands_next z = by (step h.state t) refl onto
      where
        by : (m : Move) → step h.state t ≡ m → Agrees m (doing c (get_or kinds i 0)) c.stack → Stands kinds values (i + 1) c' (deep_by deep c'.level)
        by none q g = absurd (z (ap (λ (d : Configuration). d.mode) e ∙ g))
        by (go s) q g =
            record {
              state = s;
              same = sym g ∙ sym e;
              comes = after (go s) q;
              levels = subst (λ (d : Configuration). Levels (deep_by deep d.level) s) (sym g ∙ sym e) (levels_next h.state s t q deep h.levels);
            }
