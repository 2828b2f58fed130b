-- The automaton accepts exactly the programs, each as its one tree, and refuses at the first token that no program continues with.
-- The statements are over the grammar alone; they rest on AutomatonSound and AutomatonComplete.
use Rattle.std.specs.Prelude.{◌≡◌, refl, ◌⊎◌, List, [], ◌∷◌, ◌++◌, ℕ}
use Rattle.std.proofs.Common.{sym, ap, subst, ◌∙◌, inl, inr, ⊎_elim, append_assoc, arith}
use Rattle.x_grammar.specs.Grammar.{Token, Program, text_program, WellFormed, IsProgram}
use Rattle.x_grammar.specs.FirstBad.{First}
use Rattle.x_grammar.specs.Automaton.{State, at_front, accepted, refused, run, reads}
use Rattle.x_grammar.specs.AutomatonSound.{Says, Stuck, says}
use Rattle.x_grammar.specs.AutomatonComplete.{all_program, ends}

-- the text of a well formed tree is accepted, as that tree
pub accepts : (p : Program) → WellFormed p → reads (text_program p) ≡ accepted p
unfolding reads
accepts p h = all_program p h

-- what is accepted is the text of that tree, which is well formed
pub accepted_text : (ts : List Token) (p : Program) → reads ts ≡ accepted p → (ts ≡ text_program p) × WellFormed p
unfolding reads
accepted_text ts p h = subst (Says ts (at_front [] 0)) h (says ts (at_front [] 0) tt)

-- so a list of tokens has at most one tree
pub one_tree : (p q : Program) → WellFormed p → WellFormed q → text_program p ≡ text_program q → p ≡ q
one_tree p q g h e = let z : accepted p ≡ accepted q = sym (accepts p g) ∙ ap reads e ∙ accepts q h in cc

refused_not : (r : List Token) (p : Program) → refused r ≡ accepted p → ⊥
refused_not r p h = let z : ◌≡◌ {A = ℕ} 0 1 = cc in omega arith

stuck_run : (t : Token) (r w : List Token) (s : State) → Stuck (t ∷ r) s → run (t ∷ w) s ≡ refused (t ∷ w)
unfolding run
stuck_run t r w s h = rw h

-- what is refused is refused at that token
pub refused_first : (ts r : List Token) → reads ts ≡ refused r → First ts r
unfolding reads IsProgram
refused_first ts r h =
    let y = subst (Says ts (at_front [] 0)) h (says ts (at_front [] 0) tt) in
    let e = ends y.here y.proper in
    record {
      before = y.taken;
      split = y.split;
      viable = (e.more_tokens, (e.tree, e.proper, y.read e.more_tokens ∙ e.completes));
      dead = λ t r' w k j. refused_not (t ∷ w) j.0
          (sym (y.came (t ∷ w) ∙ stuck_run t r' w y.here (subst (λ (l : List Token). Stuck l y.here) k y.stuck)) ∙ ap reads j.2 ∙ accepts j.0 j.1);
      ended = λ k j. refused_not r j.0 (sym h ∙ ap reads j.2 ∙ accepts j.0 j.1);
    }

-- and a list of tokens that is refused is no program
pub refused_no_program : (ts r : List Token) → reads ts ≡ refused r → IsProgram ts → ⊥
unfolding IsProgram
refused_no_program ts r h j = refused_not r j.0 (sym h ∙ ap reads j.2 ∙ accepts j.0 j.1)

-- ── there is one such token ──

-- tokens that have one are no program
pub first_no_program : (ts r : List Token) → First ts r → IsProgram ts → ⊥
first_no_program ts [] f j = f.ended refl j
first_no_program ts (t ∷ r) f j = f.dead t r r refl (subst IsProgram f.split j)

-- one beginning is longer than the other by a token and more
record Longer (a r b : List Token) : Type 0 where
  token : Token
  rest : List Token
  unread : r ≡ token ∷ rest
  more : List Token
  longer : b ≡ a ++ token ∷ more

-- two ways to part a list are the same, or one of the first parts is longer
compare : (a r b u : List Token) → a ++ r ≡ b ++ u → (r ≡ u) ⊎ (Longer a r b ⊎ Longer b u a)
compare [] r [] u e = inl e
compare [] r (y ∷ b) u e = inr (inl (record { token = y; rest = b ++ u; unread = e; more = b; longer = refl }))
compare (x ∷ a) r [] u e = inr (inr (record { token = x; rest = a ++ r; unread = sym e; more = a; longer = refl }))
compare (x ∷ a) r (y ∷ b) u e = by (compare a r b u (cc))
  where
    by : (r ≡ u) ⊎ (Longer a r b ⊎ Longer b u a) → (r ≡ u) ⊎ (Longer (x ∷ a) r (y ∷ b) ⊎ Longer (y ∷ b) u (x ∷ a))
    by (inl q) = inl q
    by (inr (inl l)) = inr (inl (record { token = l.token; rest = l.rest; unread = l.unread; more = l.more; longer = cc l.longer }))
    by (inr (inr l)) = inr (inr (record { token = l.token; rest = l.rest; unread = l.unread; more = l.more; longer = cc l.longer }))

not_longer : (ts r u : List Token) (f : First ts r) (g : First ts u) → Longer f.before r g.before → ⊥
not_longer ts r u f g l =
    let j = g.viable in
    f.dead l.token l.rest (l.more ++ j.0) l.unread (subst IsProgram (ap (λ (b : List Token). b ++ j.0) l.longer ∙ append_assoc f.before (l.token ∷ l.more) j.0) j.1)

pub one_first : (ts r u : List Token) → First ts r → First ts u → r ≡ u
one_first ts r u f g =
    ⊎_elim (λ e. e) (λ l. absurd (⊎_elim (not_longer ts r u f g) (not_longer ts u r g f) l)) (compare f.before r g.before u (sym f.split ∙ g.split))
