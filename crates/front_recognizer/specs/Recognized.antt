-- What the recognizer's answer says of the tokens, and why. Definitions and laws; rests on Follows and Levels.
use Rattle.std.specs.Prelude.{◌≡◌, Bool, true, false, ℕ, ◌+◌, ◌<◌, ◌≤◌, max, length, Result, Ok, Err}
use Rattle.std.proofs.Math.Path.{refl, ap, subst}
use Rattle.std.proofs.Common.{◌∙◌, arith}
use mathlib.Core.List.{List, []}
use Rattle.arm_word.specs.Choice.{pick}
use Rattle.x_grammar.specs.Grammar.{Token, Program}
use Rattle.x_grammar.specs.Automaton.{Partial, var_read, array_read, array_named, array_opened, array_sized, val_read, val_named, val_equated, whole, State, at_front, specifying, need_process}
use Rattle.x_grammar.specs.Automaton.{brace_opened, target, target_element, have_process, need_expression, need_operand, name_read, have_operand, have_expression, Reading}
use Rattle.x_grammar.specs.Automaton.{accepted, refused, final, run, reads}
use Rattle.x_grammar.specs.TokenArrays.{unread}
use Rattle.x_grammar.specs.Unread.{unread_end}
use Rattle.x_grammar.specs.TreeDepth.{depth, deepest, depth_limit}
use Rattle.x_grammar.specs.Nesting.{Bounded}
use Rattle.front_recognizer.specs.declared.Fault.{Fault}
use Rattle.front_recognizer.specs.declared.Fault.TheVariants as fault
use Rattle.front_recognizer.specs.declared.mode.Mode.TheVariants as mode
use Rattle.front_recognizer.specs.Pushdown.{Configuration, at, no_operator, configuration, mode_partial, complete}
use Rattle.front_recognizer.specs.Follows.{Ends, finishes}
use Rattle.front_recognizer.specs.Levels.{Levels, levels_first, levels_nest, levels_deep}

-- no state is refused
partial_not_refused : (x : Partial) → mode_partial x ≡ mode.Refused → ⊥
partial_not_refused var_read e = cc
partial_not_refused array_read e = cc
partial_not_refused (array_named x) e = cc
partial_not_refused (array_opened x) e = cc
partial_not_refused (array_sized x c) e = cc
partial_not_refused val_read e = cc
partial_not_refused (val_named x) e = cc
partial_not_refused (val_equated x) e = cc
partial_not_refused (whole s) e = cc

pub not_refused : (s : State) → (configuration s).mode ≡ mode.Refused → ⊥
not_refused (at_front b n) e = cc
not_refused (specifying b n x) e = partial_not_refused x e
not_refused (need_process c) e = cc
not_refused (brace_opened c) e = cc
not_refused (target n c) e = cc
not_refused (target_element n s c) e = cc
not_refused (have_process p c) e = cc
not_refused (need_expression c) e = cc
not_refused (need_operand c) e = cc
not_refused (name_read n c) e = cc
not_refused (have_operand a c) e = cc
not_refused (have_expression x c) e = cc

-- the answer of n tokens that read as r
abbrev pub Says : ℕ → Reading → Result (Unit {0}) Fault → Type 0
Says n r (Ok u) = Bounded r
Says n r (Err fault.Deep) = (p : Program) × (r ≡ accepted p) × (depth_limit < max (depth p) (deepest p))
Says n r (Err (fault.Ungrammatical x)) = (u : List Token) × (r ≡ refused u) × (x.token + length u ≡ n)

abbrev pub refused_at : ℕ → Result (Unit {0}) Fault
refused_at i = Err (fault.Ungrammatical (record { token = i }))

abbrev pub ended : Bool → Bool → ℕ → Result (Unit {0}) Fault
ended complete deep n = pick complete (pick deep (Err fault.Deep) (Ok tt)) (refused_at n)

module _ (kinds values : List ℕ) where
  -- the automaton's state at token i is that of the configuration; its tree nests within the limit where no level reached that, and else is too deep
  pub record Stands (i : ℕ) (c : Configuration) (deep : Bool) : Type 0 where
    pub state : State
    pub same : configuration state ≡ c
    pub comes : reads (unread kinds values 0) ≡ run (unread kinds values i) state
    pub levels : Levels deep state

  pub stands_first : Stands 0 (at mode.Front no_operator 0 []) false
  unfolding reads
  stands_first = record { state = at_front [] 0; same = refl; comes = refl; levels = levels_first }

  pub stands_last : (i : ℕ) (c : Configuration) (deep : Bool) → Stands i c deep → i ≤ length kinds → length kinds ≤ i → Says (length kinds) (reads (unread kinds values 0)) (ended (complete c) deep i)
  unfolding run
  stands_last i c deep h a b = subst (λ (d : Configuration). Says (length kinds) (reads (unread kinds values 0)) (ended (complete d) deep i)) h.same
      (by (final h.state) (complete (configuration h.state)) refl (finishes h.state) deep h.levels)
    where
      there : reads (unread kinds values 0) ≡ final h.state
      there = h.comes ∙ ap (λ (w : List Token). run w h.state) (unread_end kinds values i b)

      by : (r : Reading) (x : Bool) → final h.state ≡ r → Ends r x → (y : Bool) → Levels y h.state → Says (length kinds) (reads (unread kinds values 0)) (ended x y i)
      by (refused u) x q g y k = rw g.1 (u, there ∙ q, omega (arith, a, b, ap length g.0))
      by (accepted p) x q g true k = rw g (p, there ∙ q, levels_deep h.state p q k)
      by (accepted p) x q g false k = rw g (record { tree = p; reading = there ∙ q; bounded = levels_nest h.state p q k })
