-- The pushdown automaton makes the moves of the grammar's automaton. Laws; assume nothing.
use Rattle.std.specs.Prelude.{◌≡◌, refl, Bool, true, false, List, [], ◌∷◌, ◌⊎◌, ℕ, zero, suc, ◌+◌, ◌-◌, ◌<◌, eqb, leb, length}
use Rattle.std.proofs.Common.{sym, subst, ◌∙◌, inl, inr, arith, ne_eqb, eqb-true, leb-true}
use Rattle.arm_word.specs.Choice.{pick}
use Rattle.arm_word.specs.ChoiceLaws.{pick_false, both, either, by_test}
use Rattle.x_spelling.specs.Kinds as kind
use Rattle.x_grammar.specs.Grammar.{Token, number, name, mark, Process, Expression, Operand, Specification, last, is_monadic, is_diadic, is_associative}
use Rattle.x_grammar.specs.Automaton.{ProcessContext, top, in_braces, in_then, in_else, in_body, in_comment, ListContext, opened, also, ExpressionContext, in_assign, in_target, in_assign_element}
use Rattle.x_grammar.specs.Automaton.{in_if, in_while, in_brackets, in_subscript, OperandContext, first, under, next, ChainContext, after, link, chain_base, chain_built, list_base, Partial}
use Rattle.x_grammar.specs.Automaton.{var_read, array_read, array_named, array_opened, array_sized, val_read, val_named, val_equated, whole, State, at_front, specifying, need_process, brace_opened}
use Rattle.x_grammar.specs.Automaton.{target, target_element, have_process, need_expression, need_operand, name_read, have_operand, have_expression, Move, go, none, is, in_comments, goes_on}
use Rattle.x_grammar.specs.Automaton.{step_have_process, step_have_expression, step_have_operand, step_operand, step_expression, step_process, step_partial, step, Reading, accepted, refused}
use Rattle.x_grammar.specs.Automaton.{final_process, final_expression, final_operand, final}
use Rattle.x_grammar.specs.TokenArrays.{token_of}
use Rattle.x_grammar.specs.Unread.{token_case, at_is}
use Rattle.front_recognizer.specs.declared.Frame.{Frame}
use Rattle.front_recognizer.specs.declared.Action.{Action}
use Rattle.front_recognizer.specs.declared.mark.Mark.TheVariants as open_mark
use Rattle.front_recognizer.specs.declared.mode.Mode.TheVariants as mode
use Rattle.front_recognizer.specs.Pushdown.{frame, counted, level_process, level_list, level_expression, level_operand, level_chain, operator_before, frames_process}
use Rattle.front_recognizer.specs.Pushdown.{frames_list}
use Rattle.front_recognizer.specs.Pushdown.{frames_expression, frames_operand, frames_chain, mode_partial, configuration, after_process, after_expression, links, after_operand, start_operand}
use Rattle.front_recognizer.specs.Pushdown.{start_expression, start_process, decide, no_frame, innermost, act, doing, complete}

-- an action is the automaton's move, where the stack is s
abbrev pub Agrees : Move → Action → List Frame → Type 0
Agrees none a s = a.mode ≡ mode.Refused
Agrees (go q) a s = act a s ≡ configuration q

-- the same either way; and with the same test by another name
keep : (s : List Frame) (b : Bool) (x y : Move) (X Y : Action) → Agrees x X s → Agrees y Y s → Agrees (pick b x y) (pick b X Y) s
keep s true x y X Y f g = f
keep s false x y X Y f g = g

either_name : (s : List Frame) (b c : Bool) (x y : Move) (X Y : Action) → b ≡ c → Agrees x X s → Agrees y Y s → Agrees (pick b x y) (pick c X Y) s
either_name s b c x y X Y e f g = subst (λ (d : Bool). Agrees (pick b x y) (pick d X Y) s) e (keep s b x y X Y f g)

-- a list in braces has one frame
list_frame : (c : ListContext) → frames_list c ≡ frame open_mark.Braces 0 (counted (level_process (list_base c))) ∷ frames_process (list_base c)
list_frame (opened c) = refl
list_frame (also p c) = list_frame c

list_level : (c : ListContext) → level_list c ≡ suc (level_process (list_base c))
list_level (opened c) = refl
list_level (also p c) = list_level c

chain_frames : (c : ChainContext) → frames_expression (chain_base c) ≡ frames_chain c
chain_frames (after a c) = refl
chain_frames (link a c) = chain_frames c

-- ── after a whole part ──
module _ (t : Token) (k : ℕ) (same : (m : ℕ) → 2 < m → is m t ≡ eqb k m) where
  ends_process : (c : ProcessContext) (p : Process) → Agrees (step_have_process c p t) (after_process (innermost (frames_process c)) k) (frames_process c)
  ends_process (top b) p = refl
  ends_process (in_braces c) p = rw (list_frame c)
      (either_name _ _ _ _ _ _ _ (same kind.semicolon (omega arith)) (rw (list_frame c, list_level c) refl) (either_name _ _ _ _ _ _ _ (same kind.close_brace (omega arith)) refl refl))
  ends_process (in_then e c) p = either_name _ _ _ _ _ _ _ (same kind.else (omega arith)) refl refl
  ends_process (in_else e q c) p = ends_process c _
  ends_process (in_body e c) p = ends_process c _
  ends_process (in_comment c) p = ends_process c _

  -- a process's frame is no expression's
  not_expression : (c : ProcessContext) → after_expression (innermost (frames_process c)) k ≡ after_process (innermost (frames_process c)) k
  not_expression (top b) = refl
  not_expression (in_braces c) = rw (list_frame c) refl
  not_expression (in_then e c) = refl
  not_expression (in_else e q c) = not_expression c
  not_expression (in_body e c) = not_expression c
  not_expression (in_comment c) = not_expression c

  ends_assigned : (c : ProcessContext) (p : Process) → Agrees (step_have_process c p t) (after_expression (innermost (frames_process c)) k) (frames_process c)
  ends_assigned c p = subst (λ (a : Action). Agrees (step_have_process c p t) a (frames_process c)) (sym (not_expression c)) (ends_process c p)

  ends_expression : (c : ExpressionContext) (e : Expression) → Agrees (step_have_expression c e t) (after_expression (innermost (frames_expression c)) k) (frames_expression c)
  ends_expression (in_assign n c) e = ends_assigned c _
  ends_expression (in_target n c) e = either_name _ _ _ _ _ _ _ (same kind.close_subscript (omega arith)) refl refl
  ends_expression (in_assign_element n s c) e = ends_assigned c _
  ends_expression (in_if c) e = either_name _ _ _ _ _ _ _ (same kind.then (omega arith)) refl refl
  ends_expression (in_while c) e = either_name _ _ _ _ _ _ _ (same kind.do_word (omega arith)) refl refl
  ends_expression (in_brackets c) e = either_name _ _ _ _ _ _ _ (same kind.close_bracket (omega arith)) refl refl
  ends_expression (in_subscript n c) e = either_name _ _ _ _ _ _ _ (same kind.close_subscript (omega arith)) refl refl

  -- an operator that chains is no small number
  same_operator : (o : ℕ) → goes_on o t ≡ links (o + 2) k
  same_operator o =
      let z : o + 2 - 2 ≡ o = omega arith in
      by_test (λ (b : Bool). pick b (is o t) false ≡ pick b (eqb k o) false) (is_associative o) (λ h. same o (large o h)) (λ h. refl) ∙ rw z
    where
      large : (o : ℕ) → is_associative o ≡ true → 2 < o
      large o h = by (either (eqb o kind.plus) (pick (leb kind.times o) (leb o kind.xor) false) h)
        where
          by : (eqb o kind.plus ≡ true) ⊎ (pick (leb kind.times o) (leb o kind.xor) false ≡ true) → 2 < o
          by (inl e) = omega (arith, eqb-true o kind.plus e)
          by (inr e) = omega (arith, leb-true kind.times o (both (leb kind.times o) (leb o kind.xor) e).0)

  ends_next : (o : ℕ) (c : ChainContext) (a : Operand) → Agrees (step_have_operand (next o c) a t) (after_operand (o + 2) (counted (level_chain c)) (innermost (frames_chain c)) k) (frames_chain c)
  ends_next o c a =
      rw (ne_eqb (o + 2) 0 (omega arith))
      (either_name _ _ _ _ _ _ _ (same_operator o) refl
      (subst (λ (s : List Frame). Agrees (step_have_expression (chain_base c) (chain_built c o (last a)) t) (after_expression (innermost s) k) s) (chain_frames c) (ends_expression (chain_base c) _)))

-- ── the moves that look at what a token is: a number, a name or a mark ──
small_not : (n k v : ℕ) → k < n → is n (number v) ≡ eqb k n
small_not n k v h = sym (ne_eqb k n (omega arith))

ends_first : (c : ExpressionContext) (a : Operand) (i k v : ℕ)
    → Agrees (step_have_operand (first c) a (token_of i k v)) (after_operand 0 (counted (level_expression c)) (innermost (frames_expression c)) k) (frames_expression c)
ends_first c a i k v =
    token_case (λ k t. Agrees (step_have_operand (first c) a t) (after_operand 0 (counted (level_expression c)) (innermost (frames_expression c)) k) (frames_expression c)) i k v
    (ends_expression (number v) 1 (λ m h. small_not m 1 v (omega arith)) c _)
    (ends_expression (name i) 2 (λ m h. small_not m 2 i (omega arith)) c _)
    (λ y z. keep _ (is_diadic k) _ _ _ _ refl (ends_expression (mark k) k (λ m h. refl) c _))

ends_operand : (c : OperandContext) (a : Operand) (i k v : ℕ)
    → Agrees (step_have_operand c a (token_of i k v)) (after_operand (operator_before c) (counted (level_operand c)) (innermost (frames_operand c)) k) (frames_operand c)
ends_operand (first c) a i k v = ends_first c a i k v
ends_operand (under o c) a i k v = ends_expression (token_of i k v) k (λ m h. at_is m i k v h) c _
ends_operand (next o c) a i k v = ends_next (token_of i k v) k (λ m h. at_is m i k v h) o c a

starts_operand : (c : OperandContext) (i k v : ℕ) → Agrees (step_operand (token_of i k v) c) (start_operand (operator_before c) (counted (level_operand c)) k) (frames_operand c)
starts_operand c i k v =
    token_case (λ k t. Agrees (step_operand t c) (start_operand (operator_before c) (counted (level_operand c)) k) (frames_operand c)) i k v refl refl
    (λ y z. rw (ne_eqb k kind.number y, ne_eqb k kind.name z) (keep _ (eqb k kind.open_bracket) _ _ _ _ refl refl))

starts_expression : (c : ExpressionContext) (i k v : ℕ) → Agrees (step_expression (token_of i k v) c) (start_expression (counted (level_expression c)) k) (frames_expression c)
starts_expression c i k v =
    token_case (λ k t. Agrees (step_expression t c) (start_expression (counted (level_expression c)) k) (frames_expression c)) i k v refl refl
    (λ y z. rw (ne_eqb k kind.number y, ne_eqb k kind.name z) (keep _ (is_monadic k) _ _ _ _ refl (keep _ (eqb k kind.open_bracket) _ _ _ _ refl refl)))

starts_process : (c : ProcessContext) (i k v : ℕ) → Agrees (step_process (token_of i k v) c) (start_process (counted (level_process c)) k) (frames_process c)
starts_process c i k v =
    token_case (λ k t. Agrees (step_process t c) (start_process (counted (level_process c)) k) (frames_process c)) i k v refl refl
    (λ y z. rw (ne_eqb k kind.name z)
    (keep _ (eqb k kind.skip) _ _ _ _ refl (keep _ (eqb k kind.stop) _ _ _ _ refl (keep _ (eqb k kind.open_brace) _ _ _ _ refl
    (keep _ (eqb k kind.if) _ _ _ _ refl
    (keep _ (eqb k kind.while) _ _ _ _ refl (keep _ (eqb k kind.comment) _ _ _ _ refl refl)))))))

specifies : (b : List Specification) (n : ℕ) (x : Partial) (i k v : ℕ) → Agrees (step_partial b n x (token_of i k v)) (decide (mode_partial x) 0 0 no_frame k) []
specifies b n var_read i k v = token_case (λ k t. Agrees (step_partial b n var_read t) (decide mode.VarRead 0 0 no_frame k) []) i k v refl refl (λ y z. rw (ne_eqb k kind.name z) refl)
specifies b n array_read i k v = token_case (λ k t. Agrees (step_partial b n array_read t) (decide mode.ArrayRead 0 0 no_frame k) []) i k v refl refl (λ y z. rw (ne_eqb k kind.name z) refl)
specifies b n (array_named x) i k v = either_name _ _ _ _ _ _ _ (at_is kind.open_subscript i k v (omega arith)) refl refl
specifies b n (array_opened x) i k v =
    token_case (λ k t. Agrees (step_partial b n (array_opened x) t) (decide mode.ArrayOpened 0 0 no_frame k) []) i k v refl refl (λ y z. rw (ne_eqb k kind.number y, ne_eqb k kind.name z) refl)
specifies b n (array_sized x c) i k v = either_name _ _ _ _ _ _ _ (at_is kind.close_subscript i k v (omega arith)) refl refl
specifies b n val_read i k v = token_case (λ k t. Agrees (step_partial b n val_read t) (decide mode.ValRead 0 0 no_frame k) []) i k v refl refl (λ y z. rw (ne_eqb k kind.name z) refl)
specifies b n (val_named x) i k v = either_name _ _ _ _ _ _ _ (at_is kind.equal i k v (omega arith)) refl refl
specifies b n (val_equated x) i k v =
    token_case (λ k t. Agrees (step_partial b n (val_equated x) t) (decide mode.ValEquated 0 0 no_frame k) []) i k v refl refl (λ y z. rw (ne_eqb k kind.number y, ne_eqb k kind.name z) refl)
specifies b n (whole s) i k v = either_name _ _ _ _ _ _ _ (at_is kind.semicolon i k v (omega arith)) refl refl

-- comments before the process stand in no frame
commented_level : (n : ℕ) (c : ProcessContext) → level_process (in_comments n c) ≡ level_process c
commented_level zero c = refl
commented_level (suc n) c = commented_level n c

commented_frames : (n : ℕ) (c : ProcessContext) → frames_process (in_comments n c) ≡ frames_process c
commented_frames zero c = refl
commented_frames (suc n) c = commented_frames n c

starts_commented : (b : List Specification) (n i k v : ℕ) → Agrees (step_process (token_of i k v) (in_comments n (top b))) (start_process 0 k) []
starts_commented b n i k v = rw (commented_level n (top b), commented_frames n (top b)) at (starts_process (in_comments n (top b)) i k v)

-- a token's action is the automaton's move
pub follows : (s : State) (i k v : ℕ) → Agrees (step s (token_of i k v)) (doing (configuration s) k) (configuration s).stack
follows (at_front b n) i k v =
    either_name _ _ _ _ _ _ _ (at_is kind.comment i k v (omega arith)) refl
    (either_name _ _ _ _ _ _ _ (at_is kind.var i k v (omega arith)) refl
    (either_name _ _ _ _ _ _ _ (at_is kind.array i k v (omega arith)) refl (either_name _ _ _ _ _ _ _ (at_is kind.val i k v (omega arith)) refl (starts_commented b n i k v))))
follows (specifying b n x) i k v = specifies b n x i k v
follows (need_process c) i k v = starts_process c i k v
follows (brace_opened c) i k v = either_name _ _ _ _ _ _ _ (at_is kind.close_brace i k v (omega arith)) refl (starts_process (in_braces (opened c)) i k v)
follows (target n c) i k v = either_name _ _ _ _ _ _ _ (at_is kind.becomes i k v (omega arith)) refl (either_name _ _ _ _ _ _ _ (at_is kind.open_subscript i k v (omega arith)) refl refl)
follows (target_element n e c) i k v = either_name _ _ _ _ _ _ _ (at_is kind.becomes i k v (omega arith)) refl refl
follows (have_process p c) i k v = ends_process (token_of i k v) k (λ m h. at_is m i k v h) c p
follows (need_expression c) i k v = starts_expression c i k v
follows (need_operand c) i k v = starts_operand c i k v
follows (name_read n c) i k v = either_name _ _ _ _ _ _ _ (at_is kind.open_subscript i k v (omega arith)) refl (ends_operand c _ i k v)
follows (have_operand a c) i k v = ends_operand c a i k v
follows (have_expression e c) i k v = ends_expression (token_of i k v) k (λ m h. at_is m i k v h) c e

-- ── where no token is left ──
-- an answer of the automaton, and whether a program ends there
abbrev pub Ends : Reading → Bool → Type 0
Ends (accepted p) b = b ≡ true
Ends (refused u) b = (u ≡ []) × (b ≡ false)

-- something is open
some : (s : List Frame) → eqb (suc (length s)) 0 ≡ false
some s = ne_eqb (suc (length s)) 0 (λ e. omega arith)

list_open : (c : ListContext) → eqb (length (frames_list c)) 0 ≡ false
list_open (opened c) = some (frames_process c)
list_open (also p c) = list_open c

final_processes : (c : ProcessContext) (p : Process) → Ends (final_process c p) (eqb (length (frames_process c)) 0)
final_processes (top b) p = refl
final_processes (in_braces c) p = (refl, list_open c)
final_processes (in_then e c) p = (refl, some (frames_process c))
final_processes (in_else e q c) p = final_processes c _
final_processes (in_body e c) p = final_processes c _
final_processes (in_comment c) p = final_processes c _

final_expressions : (c : ExpressionContext) (e : Expression) → Ends (final_expression c e) (eqb (length (frames_expression c)) 0)
final_expressions (in_assign n c) e = final_processes c _
final_expressions (in_target n c) e = (refl, some (frames_process c))
final_expressions (in_assign_element n s c) e = final_processes c _
final_expressions (in_if c) e = (refl, some (frames_process c))
final_expressions (in_while c) e = (refl, some (frames_process c))
final_expressions (in_brackets c) e = (refl, some (frames_operand c))
final_expressions (in_subscript n c) e = (refl, some (frames_operand c))

final_operands : (c : OperandContext) (a : Operand) → Ends (final_operand c a) (eqb (length (frames_operand c)) 0)
final_operands (first c) a = final_expressions c _
final_operands (under o c) a = final_expressions c _
final_operands (next o c) a = subst (λ (s : List Frame). Ends (final_operand (next o c) a) (eqb (length s) 0)) (chain_frames c) (final_expressions (chain_base c) _)

-- a mode in which a program can end
can_end : (b : Bool) → b ≡ pick b true false
can_end true = refl
can_end false = refl

partial_incomplete : (b : List Specification) (n : ℕ) (x : Partial) → complete (configuration (specifying b n x)) ≡ false
partial_incomplete b n var_read = refl
partial_incomplete b n array_read = refl
partial_incomplete b n (array_named x) = refl
partial_incomplete b n (array_opened x) = refl
partial_incomplete b n (array_sized x c) = refl
partial_incomplete b n val_read = refl
partial_incomplete b n (val_named x) = refl
partial_incomplete b n (val_equated x) = refl
partial_incomplete b n (whole s) = refl

pub finishes : (s : State) → Ends (final s) (complete (configuration s))
finishes (at_front b n) = (refl, refl)
finishes (specifying b n x) = (refl, partial_incomplete b n x)
finishes (need_process c) = (refl, pick_false (eqb (length (frames_process c)) 0))
finishes (brace_opened c) = (refl, pick_false (eqb (suc (length (frames_process c))) 0))
finishes (target n c) = (refl, pick_false (eqb (length (frames_process c)) 0))
finishes (target_element n e c) = (refl, pick_false (eqb (length (frames_process c)) 0))
finishes (have_process p c) = subst (Ends (final_process c p)) (can_end _) (final_processes c p)
finishes (need_expression c) = (refl, pick_false (eqb (length (frames_expression c)) 0))
finishes (need_operand c) = (refl, pick_false (eqb (length (frames_operand c)) 0))
finishes (name_read n c) = subst (Ends (final_operand c _)) (can_end _) (final_operands c _)
finishes (have_operand a c) = subst (Ends (final_operand c a)) (can_end _) (final_operands c a)
finishes (have_expression e c) = subst (Ends (final_expression c e)) (can_end _) (final_expressions c e)
