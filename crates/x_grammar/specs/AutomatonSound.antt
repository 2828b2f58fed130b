-- What the automaton has read is the text of its state, move for move. Proofs; rests on the automaton.
-- A state's text is what stands before its hole, then the part it has, then what follows.
use Rattle.std.specs.Prelude.{◌≡◌, refl, Bool, true, false, List, [], ◌∷◌, ◌++◌, ℕ, zero, suc, eqb}
use Rattle.std.proofs.Common.{sym, ap, subst, ◌∙◌, eqb-true}
use Rattle.arm_word.specs.Choice.{pick}
use Rattle.arm_word.specs.ChoiceLaws.{both}
use Rattle.x_spelling.specs.Kinds as kind
use Rattle.x_grammar.specs.Grammar.{Token, number, name, mark, Expression, single, monadic, Chain, last, more, Operand, variable, Process, assign, assign_element, braces}
use Rattle.x_grammar.specs.Grammar.{conditional, while, after_comment, Processes, only, followed, Constant, literal, named, Specification, val, commented, text_expression}
use Rattle.x_grammar.specs.Grammar.{text_chain, text_operand, text_process, text_processes, text_constant, text_specification, text_specifications, text_program, is_monadic, is_diadic}
use Rattle.x_grammar.specs.Grammar.{is_associative, WellFormedExpression, WellFormedChain, WellFormedOperand, WellFormedProcess, WellFormedProcesses, WellFormed}
use Rattle.x_grammar.specs.Automaton.{ProcessContext, top, in_braces, in_then, in_else, in_body, in_comment, ListContext, opened, also, ExpressionContext, in_assign, in_target}
use Rattle.x_grammar.specs.Automaton.{in_assign_element, in_if, in_while, in_brackets, in_subscript, OperandContext, first, under, next, ChainContext, after, link, chain_base, chain_built}
use Rattle.x_grammar.specs.Automaton.{list_base, list_built, in_order, comments_before, in_comments, Partial, var_read, array_read, array_named, array_opened, array_sized, val_read}
use Rattle.x_grammar.specs.Automaton.{val_named, val_equated, whole, State, at_front, specifying, need_process, brace_opened, target, target_element, have_process, need_expression}
use Rattle.x_grammar.specs.Automaton.{need_operand, name_read, have_operand, have_expression, Move, go, none, is, kind_of, goes_on, step_have_process, step_have_expression, step_have_operand}
use Rattle.x_grammar.specs.Automaton.{step_operand, step_expression, step_process, with_name, with_constant, step_partial, step_front, step, Reading, accepted, refused, final_process}
use Rattle.x_grammar.specs.Automaton.{final_expression, final_operand, final, onward, run}

-- the text before a hole, followed by w
abbrev pub before_front : List Specification → List Token → List Token
before_front [] w = w
before_front (s ∷ b) w = before_front b (text_specification s (mark kind.semicolon ∷ w))

abbrev pub comments : ℕ → List Token → List Token
comments zero w = w
comments (suc n) w = comments n (mark kind.comment ∷ w)

abbrev mutual
  pub before_process : ProcessContext → List Token → List Token
  before_process (top b) w = before_front b w
  before_process (in_braces k) w = before_list k w
  before_process (in_then e k) w = before_process k (mark kind.if ∷ text_expression e (mark kind.then ∷ w))
  before_process (in_else e p k) w = before_process k (mark kind.if ∷ text_expression e (mark kind.then ∷ text_process p (mark kind.else ∷ w)))
  before_process (in_body e k) w = before_process k (mark kind.while ∷ text_expression e (mark kind.do_word ∷ w))
  before_process (in_comment k) w = before_process k (mark kind.comment ∷ w)

  pub before_list : ListContext → List Token → List Token
  before_list (opened k) w = before_process k (mark kind.open_brace ∷ w)
  before_list (also p k) w = before_list k (text_process p (mark kind.semicolon ∷ w))

abbrev mutual
  pub before_expression : ExpressionContext → List Token → List Token
  before_expression (in_assign n k) w = before_process k (name n ∷ mark kind.becomes ∷ w)
  before_expression (in_target n k) w = before_process k (name n ∷ mark kind.open_subscript ∷ w)
  before_expression (in_assign_element n s k) w = before_process k (name n ∷ mark kind.open_subscript ∷ text_expression s (mark kind.close_subscript ∷ mark kind.becomes ∷ w))
  before_expression (in_if k) w = before_process k (mark kind.if ∷ w)
  before_expression (in_while k) w = before_process k (mark kind.while ∷ w)
  before_expression (in_brackets k) w = before_operand k (mark kind.open_bracket ∷ w)
  before_expression (in_subscript n k) w = before_operand k (name n ∷ mark kind.open_subscript ∷ w)

  pub before_operand : OperandContext → List Token → List Token
  before_operand (first k) w = before_expression k w
  before_operand (under o k) w = before_expression k (mark o ∷ w)
  before_operand (next o k) w = before_chain k o w

  pub before_chain : ChainContext → ℕ → List Token → List Token
  before_chain (after a k) o w = before_expression k (text_operand a (mark o ∷ w))
  before_chain (link a k) o w = before_chain k o (text_operand a (mark o ∷ w))

abbrev pub text_partial : Partial → List Token → List Token
text_partial var_read w = mark kind.var ∷ w
text_partial array_read w = mark kind.array ∷ w
text_partial (array_named x) w = mark kind.array ∷ name x ∷ w
text_partial (array_opened x) w = mark kind.array ∷ name x ∷ mark kind.open_subscript ∷ w
text_partial (array_sized x c) w = mark kind.array ∷ name x ∷ mark kind.open_subscript ∷ text_constant c w
text_partial val_read w = mark kind.val ∷ w
text_partial (val_named x) w = mark kind.val ∷ name x ∷ w
text_partial (val_equated x) w = mark kind.val ∷ name x ∷ mark kind.equal ∷ w
text_partial (whole s) w = text_specification s w

abbrev pub text_state : State → List Token → List Token
text_state (at_front b n) w = before_front b (comments n w)
text_state (specifying b n x) w = before_front b (comments n (text_partial x w))
text_state (need_process k) w = before_process k w
text_state (brace_opened k) w = before_process k (mark kind.open_brace ∷ w)
text_state (target n k) w = before_process k (name n ∷ w)
text_state (target_element n s k) w = before_process k (name n ∷ mark kind.open_subscript ∷ text_expression s (mark kind.close_subscript ∷ w))
text_state (have_process p k) w = before_process k (text_process p w)
text_state (need_expression k) w = before_expression k w
text_state (need_operand k) w = before_operand k w
text_state (name_read n k) w = before_operand k (name n ∷ w)
text_state (have_operand a k) w = before_operand k (text_operand a w)
text_state (have_expression e k) w = before_expression k (text_expression e w)

-- the parts of a context are well formed
abbrev mutual
  pub FineProcess : ProcessContext → Type 0
  FineProcess (top b) = Unit {0}
  FineProcess (in_braces k) = FineList k
  FineProcess (in_then e k) = WellFormedExpression e × FineProcess k
  FineProcess (in_else e p k) = WellFormedExpression e × WellFormedProcess p × FineProcess k
  FineProcess (in_body e k) = WellFormedExpression e × FineProcess k
  FineProcess (in_comment k) = FineProcess k

  pub FineList : ListContext → Type 0
  FineList (opened k) = FineProcess k
  FineList (also p k) = WellFormedProcess p × FineList k

abbrev mutual
  pub FineExpression : ExpressionContext → Type 0
  FineExpression (in_assign n k) = FineProcess k
  FineExpression (in_target n k) = FineProcess k
  FineExpression (in_assign_element n s k) = WellFormedExpression s × FineProcess k
  FineExpression (in_if k) = FineProcess k
  FineExpression (in_while k) = FineProcess k
  FineExpression (in_brackets k) = FineOperand k
  FineExpression (in_subscript n k) = FineOperand k

  pub FineOperand : OperandContext → Type 0
  FineOperand (first k) = FineExpression k
  FineOperand (under o k) = (is_monadic o ≡ true) × FineExpression k
  FineOperand (next o k) = (is_diadic o ≡ true) × FineChain k o

  pub FineChain : ChainContext → ℕ → Type 0
  FineChain (after a k) o = WellFormedOperand a × FineExpression k
  FineChain (link a k) o = (is_associative o ≡ true) × WellFormedOperand a × FineChain k o

abbrev pub Fine : State → Type 0
Fine (at_front b n) = Unit {0}
Fine (specifying b n x) = Unit {0}
Fine (need_process k) = FineProcess k
Fine (brace_opened k) = FineProcess k
Fine (target n k) = FineProcess k
Fine (target_element n s k) = WellFormedExpression s × FineProcess k
Fine (have_process p k) = WellFormedProcess p × FineProcess k
Fine (need_expression k) = FineExpression k
Fine (need_operand k) = FineOperand k
Fine (name_read n k) = FineOperand k
Fine (have_operand a k) = WellFormedOperand a × FineOperand k
Fine (have_expression e k) = WellFormedExpression e × FineExpression k

-- a move from the text f comes to a fine state of that text
abbrev Good : (List Token → List Token) → Move → Type 0
Good f none = Unit {0}
Good f (go s) = ((w : List Token) → f w ≡ text_state s w) × Fine s

good_pick : (f : List Token → List Token) (b : Bool) (x y : Move) → (b ≡ true → Good f x) → (b ≡ false → Good f y) → Good f (pick b x y)
good_pick f true x y p q = p refl
good_pick f false x y p q = q refl

good_from : (f g : List Token → List Token) (m : Move) → ((w : List Token) → f w ≡ g w) → Good g m → Good f m
good_from f g none e h = tt
good_from f g (go s) e h = ((λ w. e w ∙ h.0 w), h.1)

good_name : (f : List Token → List Token) (g : ℕ → Move) → ((n : ℕ) → Good (λ w. f (name n ∷ w)) (g n)) → (t : Token) → Good (λ w. f (t ∷ w)) (with_name g t)
good_name f g h (number v) = tt
good_name f g h (name n) = h n
good_name f g h (mark m) = tt

good_constant : (f : List Token → List Token) (g : Constant → Move) → ((c : Constant) → Good (λ w. f (text_constant c w)) (g c)) → (t : Token) → Good (λ w. f (t ∷ w)) (with_constant g t)
good_constant f g h (number v) = h (literal v)
good_constant f g h (name n) = h (named n)
good_constant f g h (mark m) = tt

pub is_mark : (k : ℕ) (t : Token) → is k t ≡ true → mark k ≡ t
is_mark k (number v) e = cc
is_mark k (name n) e = cc
is_mark k (mark m) e = ap mark (sym (eqb-true m k e))

monadic_mark : (t : Token) → is_monadic (kind_of t) ≡ true → mark (kind_of t) ≡ t
monadic_mark (number v) e = cc
monadic_mark (name n) e = cc
monadic_mark (mark m) e = refl

diadic_mark : (t : Token) → is_diadic (kind_of t) ≡ true → mark (kind_of t) ≡ t
diadic_mark (number v) e = cc
diadic_mark (name n) e = cc
diadic_mark (mark m) e = refl

-- chains, lists and specifications, put together as they were read
pub chain_text : (k : ChainContext) (o : ℕ) (c : Chain) (w : List Token) → before_chain k o (text_chain c o w) ≡ before_expression (chain_base k) (text_expression (chain_built k o c) w)
chain_text (after a k) o c w = refl
chain_text (link a k) o c w = chain_text k o (more a c) w

pub chain_fine : (k : ChainContext) (o : ℕ) (c : Chain) → is_diadic o ≡ true → FineChain k o → WellFormedChain c o → WellFormedExpression (chain_built k o c) × FineExpression (chain_base k)
chain_fine (after a k) o c p h q = ((p, h.0, q), h.1)
chain_fine (link a k) o c p h q = chain_fine k o (more a c) p h.2 (h.0, h.1, q)

list_text : (k : ListContext) (ps : Processes) (w : List Token)
    → before_list k (text_processes ps (mark kind.close_brace ∷ w)) ≡ before_process (list_base k) (text_process (braces (list_built k ps)) w)
list_text (opened k) ps w = refl
list_text (also p k) ps w = list_text k (followed p ps) w

list_fine : (k : ListContext) (ps : Processes) → FineList k → WellFormedProcesses ps → WellFormedProcesses (list_built k ps) × FineProcess (list_base k)
list_fine (opened k) ps q p = (p, q)
list_fine (also x k) ps q p = list_fine k (followed x ps) q.1 (q.0, p)

pub front_text : (b ss : List Specification) (w : List Token) → before_front b (text_specifications ss w) ≡ text_specifications (in_order b ss) w
front_text [] ss w = refl
front_text (s ∷ b) ss w = front_text b (s ∷ ss) w

pub comments_text : (n : ℕ) (s : Specification) (w : List Token) → comments n (text_specification s w) ≡ text_specification (comments_before n s) w
comments_text zero s w = refl
comments_text (suc n) s w = comments_text n (commented s) w

pub in_comments_text : (n : ℕ) (b : List Specification) (w : List Token) → before_front b (comments n w) ≡ before_process (in_comments n (top b)) w
in_comments_text zero b w = refl
in_comments_text (suc n) b w = in_comments_text n b (mark kind.comment ∷ w)

pub in_comments_fine : (n : ℕ) (b : List Specification) → FineProcess (in_comments n (top b))
in_comments_fine zero b = tt
in_comments_fine (suc n) b = in_comments_fine n b

-- every move is good
good_have_process : (k : ProcessContext) (p : Process) (t : Token) → WellFormedProcess p → FineProcess k → Good (λ w. before_process k (text_process p (t ∷ w))) (step_have_process k p t)
good_have_process (top b) p t h q = tt
good_have_process (in_braces k) p t h q =
    good_pick _ (is kind.semicolon t) _ _ (λ e. ((λ w. rw (← is_mark kind.semicolon t e)), (h, q)))
    (λ e. good_pick _ (is kind.close_brace t) _ _ (λ f. ((λ w. rw (← is_mark kind.close_brace t f) (list_text k (only p) w)), list_fine k (only p) q h)) (λ f. tt))
good_have_process (in_then e k) p t h q = good_pick _ (is kind.else t) _ _ (λ f. ((λ w. rw (← is_mark kind.else t f)), (q.0, h, q.1))) (λ f. tt)
good_have_process (in_else e x k) p t h q = good_have_process k (conditional e x p) t (q.0, q.1, h) q.2
good_have_process (in_body e k) p t h q = good_have_process k (while e p) t (q.0, h) q.1
good_have_process (in_comment k) p t h q = good_have_process k (after_comment p) t h q

good_process : (t : Token) (k : ProcessContext) → FineProcess k → Good (λ w. before_process k (t ∷ w)) (step_process t k)
good_process (number v) k q = tt
good_process (name n) k q = ((λ w. refl), q)
good_process (mark m) k q =
    good_pick _ (eqb m kind.skip) _ _ (λ h. ((λ w. rw (eqb-true m kind.skip h)), (tt, q)))
    (λ _. good_pick _ (eqb m kind.stop) _ _ (λ h. ((λ w. rw (eqb-true m kind.stop h)), (tt, q)))
    (λ _. good_pick _ (eqb m kind.open_brace) _ _ (λ h. ((λ w. rw (eqb-true m kind.open_brace h)), q))
    (λ _. good_pick _ (eqb m kind.if) _ _ (λ h. ((λ w. rw (eqb-true m kind.if h)), q))
    (λ _. good_pick _ (eqb m kind.while) _ _ (λ h. ((λ w. rw (eqb-true m kind.while h)), q))
    (λ _. good_pick _ (eqb m kind.comment) _ _ (λ h. ((λ w. rw (eqb-true m kind.comment h)), q)) (λ _. tt))))))

good_have_expression : (k : ExpressionContext) (e : Expression) (t : Token) → WellFormedExpression e → FineExpression k
    → Good (λ w. before_expression k (text_expression e (t ∷ w))) (step_have_expression k e t)
good_have_expression (in_assign n k) e t p q = good_have_process k (assign n e) t p q
good_have_expression (in_target n k) e t p q = good_pick _ (is kind.close_subscript t) _ _ (λ h. ((λ w. rw (← is_mark kind.close_subscript t h)), (p, q))) (λ h. tt)
good_have_expression (in_assign_element n s k) e t p q = good_have_process k (assign_element n s e) t (q.0, p) q.1
good_have_expression (in_if k) e t p q = good_pick _ (is kind.then t) _ _ (λ h. ((λ w. rw (← is_mark kind.then t h)), (p, q))) (λ h. tt)
good_have_expression (in_while k) e t p q = good_pick _ (is kind.do_word t) _ _ (λ h. ((λ w. rw (← is_mark kind.do_word t h)), (p, q))) (λ h. tt)
good_have_expression (in_brackets k) e t p q = good_pick _ (is kind.close_bracket t) _ _ (λ h. ((λ w. rw (← is_mark kind.close_bracket t h)), (p, q))) (λ h. tt)
good_have_expression (in_subscript n k) e t p q = good_pick _ (is kind.close_subscript t) _ _ (λ h. ((λ w. rw (← is_mark kind.close_subscript t h)), (p, q))) (λ h. tt)

good_have_operand : (k : OperandContext) (a : Operand) (t : Token) → WellFormedOperand a → FineOperand k → Good (λ w. before_operand k (text_operand a (t ∷ w))) (step_have_operand k a t)
good_have_operand (first k) a t p q = good_pick _ (is_diadic (kind_of t)) _ _ (λ h. ((λ w. rw (diadic_mark t h)), (h, (p, q)))) (λ h. good_have_expression k (single a) t p q)
good_have_operand (under o k) a t p q = good_have_expression k (monadic o a) t (q.0, p) q.1
good_have_operand (next o k) a t p q =
    good_pick _ (goes_on o t) _ _
    (λ h. let j = both (is_associative o) (is o t) h in ((λ w. rw (is_mark o t j.1)), (q.0, (j.0, p, q.1))))
    (λ h. let b = chain_fine k o (last a) q.0 q.1 p in
    good_from _ _ (step_have_expression (chain_base k) (chain_built k o (last a)) t) (λ w. chain_text k o (last a) (t ∷ w))
    (good_have_expression (chain_base k) (chain_built k o (last a)) t b.0 b.1))

good_operand : (t : Token) (k : OperandContext) → FineOperand k → Good (λ w. before_operand k (t ∷ w)) (step_operand t k)
good_operand (number v) k q = ((λ w. refl), (tt, q))
good_operand (name n) k q = ((λ w. refl), q)
good_operand (mark m) k q = good_pick _ (eqb m kind.open_bracket) _ _ (λ h. ((λ w. rw (eqb-true m kind.open_bracket h)), q)) (λ h. tt)

good_expression : (t : Token) (k : ExpressionContext) → FineExpression k → Good (λ w. before_expression k (t ∷ w)) (step_expression t k)
good_expression t k q = good_pick _ (is_monadic (kind_of t)) _ _ (λ h. ((λ w. rw (monadic_mark t h)), (h, q))) (λ h. good_operand t (first k) q)

good_partial : (b : List Specification) (n : ℕ) (x : Partial) (t : Token) → Good (λ w. before_front b (comments n (text_partial x (t ∷ w)))) (step_partial b n x t)
good_partial b n var_read t = good_name (λ w. before_front b (comments n (mark kind.var ∷ w))) _ (λ x. ((λ w. refl), tt)) t
good_partial b n array_read t = good_name (λ w. before_front b (comments n (mark kind.array ∷ w))) _ (λ x. ((λ w. refl), tt)) t
good_partial b n (array_named x) t = good_pick _ (is kind.open_subscript t) _ _ (λ h. ((λ w. rw (← is_mark kind.open_subscript t h)), tt)) (λ h. tt)
good_partial b n (array_opened x) t =
    good_constant (λ w. before_front b (comments n (mark kind.array ∷ name x ∷ mark kind.open_subscript ∷ w)))
    (λ c. go (specifying b n (array_sized x c))) (λ c. ((λ w. refl), tt)) t
good_partial b n (array_sized x c) t = good_pick _ (is kind.close_subscript t) _ _ (λ h. ((λ w. rw (← is_mark kind.close_subscript t h)), tt)) (λ h. tt)
good_partial b n val_read t = good_name (λ w. before_front b (comments n (mark kind.val ∷ w))) _ (λ x. ((λ w. refl), tt)) t
good_partial b n (val_named x) t = good_pick _ (is kind.equal t) _ _ (λ h. ((λ w. rw (← is_mark kind.equal t h)), tt)) (λ h. tt)
good_partial b n (val_equated x) t =
    good_constant (λ w. before_front b (comments n (mark kind.val ∷ name x ∷ mark kind.equal ∷ w)))
    (λ c. go (specifying b n (whole (val x c)))) (λ c. ((λ w. refl), tt)) t
good_partial b n (whole s) t = good_pick _ (is kind.semicolon t) _ _ (λ h. ((λ w. rw (← is_mark kind.semicolon t h) (ap (before_front b) (comments_text n s (mark kind.semicolon ∷ w)))), tt)) (λ h. tt)

good_front : (b : List Specification) (n : ℕ) (t : Token) → Good (λ w. before_front b (comments n (t ∷ w))) (step_front b n t)
good_front b n t =
    good_pick _ (is kind.comment t) _ _ (λ h. ((λ w. rw (← is_mark kind.comment t h)), tt))
    (λ _. good_pick _ (is kind.var t) _ _ (λ h. ((λ w. rw (← is_mark kind.var t h)), tt))
    (λ _. good_pick _ (is kind.array t) _ _ (λ h. ((λ w. rw (← is_mark kind.array t h)), tt))
    (λ _. good_pick _ (is kind.val t) _ _ (λ h. ((λ w. rw (← is_mark kind.val t h)), tt))
    (λ _. good_from _ _ (step_process t (in_comments n (top b))) (λ w. in_comments_text n b (t ∷ w)) (good_process t (in_comments n (top b)) (in_comments_fine n b))))))

good : (s : State) (t : Token) → Fine s → Good (λ w. text_state s (t ∷ w)) (step s t)
good (at_front b n) t q = good_front b n t
good (specifying b n x) t q = good_partial b n x t
good (need_process k) t q = good_process t k q
good (brace_opened k) t q = good_pick _ (is kind.close_brace t) _ _ (λ h. ((λ w. rw (← is_mark kind.close_brace t h)), (tt, q))) (λ h. good_process t (in_braces (opened k)) q)
good (target n k) t q =
    good_pick _ (is kind.becomes t) _ _ (λ h. ((λ w. rw (← is_mark kind.becomes t h)), q))
    (λ _. good_pick _ (is kind.open_subscript t) _ _ (λ h. ((λ w. rw (← is_mark kind.open_subscript t h)), q)) (λ h. tt))
good (target_element n s k) t q = good_pick _ (is kind.becomes t) _ _ (λ h. ((λ w. rw (← is_mark kind.becomes t h)), q)) (λ h. tt)
good (have_process p k) t q = good_have_process k p t q.0 q.1
good (need_expression k) t q = good_expression t k q
good (need_operand k) t q = good_operand t k q
good (name_read n k) t q = good_pick _ (is kind.open_subscript t) _ _ (λ h. ((λ w. rw (← is_mark kind.open_subscript t h)), q)) (λ h. good_have_operand k (variable n) t tt q)
good (have_operand a k) t q = good_have_operand k a t q.0 q.1
good (have_expression e k) t q = good_have_expression k e t q.0 q.1

-- and so is every end
abbrev Fin : List Token → Reading → Type 0
Fin l (accepted p) = (l ≡ text_program p) × WellFormed p
Fin l (refused r) = r ≡ []

fin_process : (k : ProcessContext) (p : Process) → WellFormedProcess p → FineProcess k → Fin (before_process k (text_process p [])) (final_process k p)
fin_process (top b) p h q = (front_text b [] (text_process p []), h)
fin_process (in_braces k) p h q = refl
fin_process (in_then e k) p h q = refl
fin_process (in_else e x k) p h q = fin_process k (conditional e x p) (q.0, q.1, h) q.2
fin_process (in_body e k) p h q = fin_process k (while e p) (q.0, h) q.1
fin_process (in_comment k) p h q = fin_process k (after_comment p) h q

fin_expression : (k : ExpressionContext) (e : Expression) → WellFormedExpression e → FineExpression k → Fin (before_expression k (text_expression e [])) (final_expression k e)
fin_expression (in_assign n k) e p q = fin_process k (assign n e) p q
fin_expression (in_target n k) e p q = refl
fin_expression (in_assign_element n s k) e p q = fin_process k (assign_element n s e) (q.0, p) q.1
fin_expression (in_if k) e p q = refl
fin_expression (in_while k) e p q = refl
fin_expression (in_brackets k) e p q = refl
fin_expression (in_subscript n k) e p q = refl

fin_operand : (k : OperandContext) (a : Operand) → WellFormedOperand a → FineOperand k → Fin (before_operand k (text_operand a [])) (final_operand k a)
fin_operand (first k) a p q = fin_expression k (single a) p q
fin_operand (under o k) a p q = fin_expression k (monadic o a) (q.0, p) q.1
fin_operand (next o k) a p q =
    let b = chain_fine k o (last a) q.0 q.1 p in
    subst (λ (l : List Token). Fin l (final_expression (chain_base k) (chain_built k o (last a)))) (sym (chain_text k o (last a) []))
    (fin_expression (chain_base k) (chain_built k o (last a)) b.0 b.1)

fin : (s : State) → Fine s → Fin (text_state s []) (final s)
fin (at_front b n) q = refl
fin (specifying b n x) q = refl
fin (need_process k) q = refl
fin (brace_opened k) q = refl
fin (target n k) q = refl
fin (target_element n s k) q = refl
fin (have_process p k) q = fin_process k p q.0 q.1
fin (need_expression k) q = refl
fin (need_operand k) q = refl
fin (name_read n k) q = fin_operand k (variable n) tt q
fin (have_operand a k) q = fin_operand k a q.0 q.1
fin (have_expression e k) q = fin_expression k e q.0 q.1

-- what is left unread where s refuses: a token that s has no move for, or nothing, where s is not done
abbrev pub Stuck : List Token → State → Type 0
Stuck [] s = final s ≡ refused []
Stuck (t ∷ ts) s = step s t ≡ none

-- where the run from s refuses with r unread, it has come to a state `here` by what it read, whatever follows
pub record Refusal (ts : List Token) (s : State) (r : List Token) : Type 0 where
  pub taken : List Token
  pub here : State
  pub split : ts ≡ taken ++ r
  pub came : (w : List Token) → run (taken ++ w) s ≡ run w here
  pub read : (w : List Token) → text_state s (taken ++ w) ≡ text_state here w
  pub proper : Fine here
  pub stuck : Stuck r here

-- and where it accepts, the text is that of the tree
abbrev pub Says : List Token → State → Reading → Type 0
Says ts s (accepted p) = (text_state s ts ≡ text_program p) × WellFormed p
Says ts s (refused r) = Refusal ts s r

says_end : (s : State) (r : Reading) → final s ≡ r → Fine s → Fin (text_state s []) r → Says [] s r
says_end s (accepted p) h q f = f
says_end s (refused r) h q f = record { taken = []; here = s; split = sym f; came = λ w. refl; read = λ w. refl; proper = q; stuck = subst (λ (l : List Token). Stuck l s) (sym f) (h ∙ ap refused f) }

says_on : (t : Token) (ts : List Token) (s s' : State) (r : Reading) → step s t ≡ go s' → ((w : List Token) → text_state s (t ∷ w) ≡ text_state s' w) → Says ts s' r → Says (t ∷ ts) s r
unfolding run
says_on t ts s s' (accepted p) h g y = (g ts ∙ y.0, y.1)
says_on t ts s s' (refused r) h g y =
    record {
      taken = t ∷ y.taken;
      here = y.here;
      split = ap (λ (l : List Token). t ∷ l) y.split;
      came = λ w. rw h (y.came w);
      read = λ w. g (y.taken ++ w) ∙ y.read w;
      proper = y.proper;
      stuck = y.stuck;
    }

says_step : (t : Token) (ts : List Token) (s : State) (m : Move) → Fine s → step s t ≡ m → Good (λ w. text_state s (t ∷ w)) m → ((s' : State) → Fine s' → Says ts s' (run ts s'))
    → Says (t ∷ ts) s (onward m (t ∷ ts) (run ts))
says_step t ts s none q h g ih = record { taken = []; here = s; split = refl; came = λ w. refl; read = λ w. refl; proper = q; stuck = h }
says_step t ts s (go s') q h g ih = says_on t ts s s' (run ts s') h g.0 (ih s' g.1)

pub says : (ts : List Token) (s : State) → Fine s → Says ts s (run ts s)
unfolding run
says [] s q = says_end s (final s) refl q (fin s q)
says (t ∷ ts) s q = says_step t ts s (step s t) q refl (good s t q) (says ts)
