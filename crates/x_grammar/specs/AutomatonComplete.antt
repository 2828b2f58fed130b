-- The text of a well formed tree is read as that tree, and every state can be completed to a program. Proofs; rests on AutomatonSound and AutomatonMoves.
use Rattle.std.specs.Prelude.{◌≡◌, refl, true, false, List, [], ◌∷◌, ℕ, suc, eqb, leb}
use Rattle.std.proofs.Common.{sym, ap, ◌∙◌, ne_eqb, leb-true, arith}
use Rattle.arm_word.specs.ChoiceLaws.{pick_false, both}
use Rattle.x_spelling.specs.Kinds as kind
use Rattle.x_grammar.specs.Grammar.{Token, number, name, mark, Expression, single, monadic, diadic, Chain, last, more, Operand, constant, variable, element, bracketed, Process, skip, stop}
use Rattle.x_grammar.specs.Grammar.{assign, assign_element, empty, braces, conditional, while, after_comment, Processes, only, followed, Constant, literal, named, Specification, var, array}
use Rattle.x_grammar.specs.Grammar.{val, commented, Program, program, text_expression, text_chain, text_operand, text_process, text_processes, text_constant, text_specification}
use Rattle.x_grammar.specs.Grammar.{text_specifications, text_program, is_diadic, is_associative, WellFormedExpression, WellFormedChain, WellFormedOperand, WellFormedProcess}
use Rattle.x_grammar.specs.Grammar.{WellFormedProcesses, WellFormed}
use Rattle.x_grammar.specs.Automaton.{ProcessContext, top, in_braces, in_then, in_else, in_body, in_comment, ListContext, opened, also, ExpressionContext, in_assign, in_target}
use Rattle.x_grammar.specs.Automaton.{in_assign_element, in_if, in_while, in_brackets, in_subscript, OperandContext, first, under, next, ChainContext, after, link, chain_base, chain_built}
use Rattle.x_grammar.specs.Automaton.{list_base, list_built, in_order, comments_before, in_comments, Partial, var_read, array_read, array_named, array_opened, array_sized, val_read}
use Rattle.x_grammar.specs.Automaton.{val_named, val_equated, whole, State, at_front, specifying, need_process, brace_opened, target, target_element, have_process, need_expression}
use Rattle.x_grammar.specs.Automaton.{need_operand, name_read, have_operand, have_expression, goes_on, accepted, run}
use Rattle.x_grammar.specs.AutomatonMoves.{head_is, opens, joins, negates, run_number, run_name, run_brackets, run_brackets_end, run_subscript, run_subscript_end, run_variable, run_expression}
use Rattle.x_grammar.specs.AutomatonMoves.{run_monadic, run_under, run_single, run_diadic, run_last, run_link, run_skip, run_stop, run_comment, run_target, run_becomes, run_target_subscript}
use Rattle.x_grammar.specs.AutomatonMoves.{run_target_end, run_element_becomes, run_open, run_empty, run_if, run_then, run_else, run_while, run_do, run_assigned, run_element_assigned}
use Rattle.x_grammar.specs.AutomatonMoves.{run_conditional}
use Rattle.x_grammar.specs.AutomatonMoves.{run_repeated, run_commented, run_close, run_semicolon}
use Rattle.x_grammar.specs.SpecificationMoves.{run_front_comment, run_var, run_array, run_val, run_var_name, run_array_name, run_val_name, run_array_open, run_array_close}
use Rattle.x_grammar.specs.SpecificationMoves.{run_val_equal, run_specified}
use Rattle.x_grammar.specs.SpecificationMoves.{run_done}
use Rattle.x_grammar.specs.AutomatonSound.{before_front, comments, before_process, before_list, before_expression, before_operand, before_chain, text_partial, text_state}
use Rattle.x_grammar.specs.AutomatonSound.{FineProcess, FineList}
use Rattle.x_grammar.specs.AutomatonSound.{FineExpression, FineOperand, FineChain, Fine, front_text, comments_text, in_comments_text, in_comments_fine}

-- Reading. What follows an expression neither opens a subscript nor joins an operand.
diadic_opens : (o : ℕ) → is_diadic o ≡ true → eqb o kind.open_subscript ≡ false
diadic_opens o h = let j = both (leb kind.plus o) (leb o kind.at_least) h in ne_eqb o kind.open_subscript (λ e. let z = leb-true kind.plus o j.0 in omega arith)

not_joins : (o : ℕ) (w : List Token) → is_diadic o ≡ true → joins w ≡ false → head_is (goes_on o) w ≡ false
not_joins o [] h j = refl
not_joins o (number v ∷ w) h j = pick_false (is_associative o)
not_joins o (name n ∷ w) h j = pick_false (is_associative o)
not_joins o (mark m ∷ w) h j = rw (ne_eqb m o (λ e. let z : false ≡ true = sym j ∙ ap (λ (x : ℕ). is_diadic x) e ∙ h in let y : ◌≡◌ {A = ℕ} 0 1 = cc in omega arith)) (pick_false (is_associative o))

negates_operand : (a : Operand) (w : List Token) → negates (text_operand a w) ≡ false
negates_operand (constant v) w = refl
negates_operand (variable n) w = refl
negates_operand (element n e) w = refl
negates_operand (bracketed e) w = refl

mutual
  all_expression : (e : Expression) (k : ExpressionContext) (w : List Token) → WellFormedExpression e → opens w ≡ false → joins w ≡ false
      → run (text_expression e w) (need_expression k) ≡ run w (have_expression e k)
  all_expression (single a) k w p x y = run_expression _ k (negates_operand a w) ∙ all_operand a (first k) w p x ∙ run_single w k a y
  all_expression (monadic o a) k w p x y = run_monadic _ k o p.0 ∙ all_operand a (under o k) w p.1 x ∙ run_under w k o a
  all_expression (diadic o a c) k w p x y =
      run_expression _ k (negates_operand a _) ∙ all_operand a (first k) (mark o ∷ text_chain c o w) p.1 (diadic_opens o p.0) ∙ run_diadic _ k o a p.0
      ∙ all_chain c o (after a k) w p.0 p.2 x y

  all_chain : (c : Chain) (o : ℕ) (k : ChainContext) (w : List Token) → is_diadic o ≡ true → WellFormedChain c o → opens w ≡ false → joins w ≡ false
      → run (text_chain c o w) (need_operand (next o k)) ≡ run w (have_expression (chain_built k o c) (chain_base k))
  all_chain (last a) o k w h p x y = all_operand a (next o k) w p x ∙ run_last w k o a (not_joins o w h y)
  all_chain (more a c) o k w h p x y = all_operand a (next o k) (mark o ∷ text_chain c o w) p.1 (diadic_opens o h) ∙ run_link _ k o a p.0 ∙ all_chain c o (link a k) w h p.2 x y

  all_operand : (a : Operand) (k : OperandContext) (w : List Token) → WellFormedOperand a → opens w ≡ false → run (text_operand a w) (need_operand k) ≡ run w (have_operand a k)
  all_operand (constant v) k w p x = run_number w k v
  all_operand (variable n) k w p x = run_name w k n ∙ run_variable w k n x
  all_operand (element n e) k w p x = run_name _ k n ∙ run_subscript _ k n ∙ all_expression e (in_subscript n k) (mark kind.close_subscript ∷ w) p refl refl ∙ run_subscript_end w k n e
  all_operand (bracketed e) k w p x = run_brackets _ k ∙ all_expression e (in_brackets k) (mark kind.close_bracket ∷ w) p refl refl ∙ run_brackets_end w k e

-- a process does not start with a closing brace
opened_process : (p : Process) (k : ProcessContext) (w : List Token) → run (text_process p w) (brace_opened k) ≡ run (text_process p w) (need_process (in_braces (opened k)))
unfolding run
opened_process skip k w = refl
opened_process stop k w = refl
opened_process (assign n e) k w = refl
opened_process (assign_element n s e) k w = refl
opened_process empty k w = refl
opened_process (braces ps) k w = refl
opened_process (conditional e p q) k w = refl
opened_process (while e p) k w = refl
opened_process (after_comment p) k w = refl

opened_list : (ps : Processes) (k : ProcessContext) (w : List Token) → run (text_processes ps w) (brace_opened k) ≡ run (text_processes ps w) (need_process (in_braces (opened k)))
opened_list (only p) k w = opened_process p k w
opened_list (followed p ps) k w = opened_process p k (mark kind.semicolon ∷ text_processes ps w)

mutual
  all_process : (p : Process) (k : ProcessContext) (w : List Token) → WellFormedProcess p → opens w ≡ false → joins w ≡ false → run (text_process p w) (need_process k) ≡ run w (have_process p k)
  all_process skip k w h x y = run_skip w k
  all_process stop k w h x y = run_stop w k
  all_process (assign n e) k w h x y = run_target _ k n ∙ run_becomes _ k n ∙ all_expression e (in_assign n k) w h x y ∙ run_assigned k w n e
  all_process (assign_element n s e) k w h x y =
      run_target _ k n ∙ run_target_subscript _ k n ∙ all_expression s (in_target n k) _ h.0 refl refl ∙ run_target_end _ k n s ∙ run_element_becomes _ k n s
      ∙ all_expression e (in_assign_element n s k) w h.1 x y ∙ run_element_assigned k w n s e
  all_process empty k w h x y = run_open _ k ∙ run_empty w k
  all_process (braces ps) k w h x y = run_open _ k ∙ opened_list ps k (mark kind.close_brace ∷ w) ∙ all_list ps (opened k) w h
  all_process (conditional e p q) k w h x y =
      run_if _ k ∙ all_expression e (in_if k) _ h.0 refl refl ∙ run_then _ k e ∙ all_process p (in_then e k) _ h.1 refl refl ∙ run_else _ k e p
      ∙ all_process q (in_else e p k) w h.2 x y ∙ run_conditional k w e p q
  all_process (while e p) k w h x y = run_while _ k ∙ all_expression e (in_while k) _ h.0 refl refl ∙ run_do _ k e ∙ all_process p (in_body e k) w h.1 x y ∙ run_repeated k w e p
  all_process (after_comment p) k w h x y = run_comment _ k ∙ all_process p (in_comment k) w h x y ∙ run_commented k w p

  all_list : (ps : Processes) (k : ListContext) (w : List Token) → WellFormedProcesses ps
      → run (text_processes ps (mark kind.close_brace ∷ w)) (need_process (in_braces k)) ≡ run w (have_process (braces (list_built k ps)) (list_base k))
  all_list (only p) k w h = all_process p (in_braces k) _ h refl refl ∙ run_close p k w
  all_list (followed p ps) k w h = all_process p (in_braces k) _ h.0 refl refl ∙ run_semicolon p k _ ∙ all_list ps (also p k) w h.1

pub all_constant_array : (c : Constant) (b : List Specification) (n x : ℕ) (w : List Token) → run (text_constant c w) (specifying b n (array_opened x)) ≡ run w (specifying b n (array_sized x c))
unfolding run
all_constant_array (literal v) b n x w = refl
all_constant_array (named y) b n x w = refl

pub all_constant_val : (c : Constant) (b : List Specification) (n x : ℕ) (w : List Token) → run (text_constant c w) (specifying b n (val_equated x)) ≡ run w (specifying b n (whole (val x c)))
unfolding run
all_constant_val (literal v) b n x w = refl
all_constant_val (named y) b n x w = refl

all_specification : (s : Specification) (b : List Specification) (n : ℕ) (w : List Token)
    → run (text_specification s (mark kind.semicolon ∷ w)) (at_front b n) ≡ run w (at_front (comments_before n s ∷ b) 0)
all_specification (var x) b n w = run_var b n _ ∙ run_var_name b n _ x ∙ run_specified b n w (var x)
all_specification (array x c) b n w = run_array b n _ ∙ run_array_name b n _ x ∙ run_array_open b n _ x ∙ all_constant_array c b n x _ ∙ run_array_close b n _ x c ∙ run_specified b n w (array x c)
all_specification (val x c) b n w = run_val b n _ ∙ run_val_name b n _ x ∙ run_val_equal b n _ x ∙ all_constant_val c b n x _ ∙ run_specified b n w (val x c)
all_specification (commented s) b n w = run_front_comment b n _ ∙ all_specification s b (suc n) w

all_specifications : (ss b : List Specification) (w : List Token) → run (text_specifications ss w) (at_front b 0) ≡ run w (at_front (in_order ss b) 0)
all_specifications [] b w = refl
all_specifications (s ∷ ss) b w = all_specification s b 0 _ ∙ all_specifications ss (s ∷ b) w

-- at the front, a process starts no specification
all_front : (p : Process) (b : List Specification) (n : ℕ) (w : List Token) → run (text_process p w) (at_front b n) ≡ run (text_process p w) (need_process (in_comments n (top b)))
unfolding run
all_front skip b n w = refl
all_front stop b n w = refl
all_front (assign x e) b n w = refl
all_front (assign_element x s e) b n w = refl
all_front empty b n w = refl
all_front (braces ps) b n w = refl
all_front (conditional e p q) b n w = refl
all_front (while e p) b n w = refl
all_front (after_comment p) b n w = all_front p b (suc n) w

twice : (ss b : List Specification) → in_order (in_order ss b) [] ≡ in_order b ss
twice [] b = refl
twice (s ∷ ss) b = twice ss (s ∷ b)

pub all_program : (p : Program) → WellFormed p → run (text_program p) (at_front [] 0) ≡ accepted p
all_program (program ss p) h =
    all_specifications ss [] _ ∙ all_front p (in_order ss []) 0 [] ∙ all_process p (top (in_order ss [])) [] h refl refl ∙ run_done (in_order ss []) p
    ∙ ap (λ (l : List Specification). accepted (program l p)) (twice ss [])

-- Completing. A hole is filled by a small part, and what is open is closed.
abbrev mutual
  plug_process : ProcessContext → Process → Program
  plug_process (top b) p = program (in_order b []) p
  plug_process (in_braces k) p = plug_list k (only p)
  plug_process (in_then e k) p = plug_process k (conditional e p skip)
  plug_process (in_else e q k) p = plug_process k (conditional e q p)
  plug_process (in_body e k) p = plug_process k (while e p)
  plug_process (in_comment k) p = plug_process k (after_comment p)

  plug_list : ListContext → Processes → Program
  plug_list (opened k) ps = plug_process k (braces ps)
  plug_list (also p k) ps = plug_list k (followed p ps)

abbrev mutual
  after_process : ProcessContext → List Token
  after_process (top b) = []
  after_process (in_braces k) = mark kind.close_brace ∷ after_list k
  after_process (in_then e k) = mark kind.else ∷ mark kind.skip ∷ after_process k
  after_process (in_else e q k) = after_process k
  after_process (in_body e k) = after_process k
  after_process (in_comment k) = after_process k

  after_list : ListContext → List Token
  after_list (opened k) = after_process k
  after_list (also p k) = after_list k

mutual
  process_plugged : (k : ProcessContext) (p : Process) → FineProcess k → WellFormedProcess p
      → (before_process k (text_process p (after_process k)) ≡ text_program (plug_process k p)) × WellFormed (plug_process k p)
  process_plugged (top b) p q h = (front_text b [] (text_process p []), h)
  process_plugged (in_braces k) p q h = list_plugged k (only p) q h
  process_plugged (in_then e k) p q h = process_plugged k (conditional e p skip) q.1 (q.0, h, tt)
  process_plugged (in_else e x k) p q h = process_plugged k (conditional e x p) q.2 (q.0, q.1, h)
  process_plugged (in_body e k) p q h = process_plugged k (while e p) q.1 (q.0, h)
  process_plugged (in_comment k) p q h = process_plugged k (after_comment p) q h

  list_plugged : (k : ListContext) (ps : Processes) → FineList k → WellFormedProcesses ps
      → (before_list k (text_processes ps (mark kind.close_brace ∷ after_list k)) ≡ text_program (plug_list k ps)) × WellFormed (plug_list k ps)
  list_plugged (opened k) ps q h = process_plugged k (braces ps) q h
  list_plugged (also p k) ps q h = list_plugged k (followed p ps) q.1 (q.0, h)

abbrev mutual
  plug_expression : ExpressionContext → Expression → Program
  plug_expression (in_assign n k) e = plug_process k (assign n e)
  plug_expression (in_target n k) e = plug_process k (assign_element n e (single (constant 0)))
  plug_expression (in_assign_element n s k) e = plug_process k (assign_element n s e)
  plug_expression (in_if k) e = plug_process k (conditional e skip skip)
  plug_expression (in_while k) e = plug_process k (while e skip)
  plug_expression (in_brackets k) e = plug_operand k (bracketed e)
  plug_expression (in_subscript n k) e = plug_operand k (element n e)

  plug_operand : OperandContext → Operand → Program
  plug_operand (first k) a = plug_expression k (single a)
  plug_operand (under o k) a = plug_expression k (monadic o a)
  plug_operand (next o k) a = plug_chain k o (last a)

  plug_chain : ChainContext → ℕ → Chain → Program
  plug_chain (after a k) o c = plug_expression k (diadic o a c)
  plug_chain (link a k) o c = plug_chain k o (more a c)

abbrev mutual
  after_expression : ExpressionContext → List Token
  after_expression (in_assign n k) = after_process k
  after_expression (in_target n k) = mark kind.close_subscript ∷ mark kind.becomes ∷ number 0 ∷ after_process k
  after_expression (in_assign_element n s k) = after_process k
  after_expression (in_if k) = mark kind.then ∷ mark kind.skip ∷ mark kind.else ∷ mark kind.skip ∷ after_process k
  after_expression (in_while k) = mark kind.do_word ∷ mark kind.skip ∷ after_process k
  after_expression (in_brackets k) = mark kind.close_bracket ∷ after_operand k
  after_expression (in_subscript n k) = mark kind.close_subscript ∷ after_operand k

  after_operand : OperandContext → List Token
  after_operand (first k) = after_expression k
  after_operand (under o k) = after_expression k
  after_operand (next o k) = after_chain k

  after_chain : ChainContext → List Token
  after_chain (after a k) = after_expression k
  after_chain (link a k) = after_chain k

mutual
  expression_plugged : (k : ExpressionContext) (e : Expression) → FineExpression k → WellFormedExpression e
      → (before_expression k (text_expression e (after_expression k)) ≡ text_program (plug_expression k e)) × WellFormed (plug_expression k e)
  expression_plugged (in_assign n k) e q p = process_plugged k (assign n e) q p
  expression_plugged (in_target n k) e q p = process_plugged k (assign_element n e (single (constant 0))) q (p, tt)
  expression_plugged (in_assign_element n s k) e q p = process_plugged k (assign_element n s e) q.1 (q.0, p)
  expression_plugged (in_if k) e q p = process_plugged k (conditional e skip skip) q (p, tt, tt)
  expression_plugged (in_while k) e q p = process_plugged k (while e skip) q (p, tt)
  expression_plugged (in_brackets k) e q p = operand_plugged k (bracketed e) q p
  expression_plugged (in_subscript n k) e q p = operand_plugged k (element n e) q p

  operand_plugged : (k : OperandContext) (a : Operand) → FineOperand k → WellFormedOperand a
      → (before_operand k (text_operand a (after_operand k)) ≡ text_program (plug_operand k a)) × WellFormed (plug_operand k a)
  operand_plugged (first k) a q p = expression_plugged k (single a) q p
  operand_plugged (under o k) a q p = expression_plugged k (monadic o a) q.1 (q.0, p)
  operand_plugged (next o k) a q p = chain_plugged k o (last a) q.0 q.1 p

  chain_plugged : (k : ChainContext) (o : ℕ) (c : Chain) → is_diadic o ≡ true → FineChain k o → WellFormedChain c o
      → (before_chain k o (text_chain c o (after_chain k)) ≡ text_program (plug_chain k o c)) × WellFormed (plug_chain k o c)
  chain_plugged (after a k) o c h q p = expression_plugged k (diadic o a c) q.1 (h, q.0, p)
  chain_plugged (link a k) o c h q p = chain_plugged k o (more a c) h q.2 (q.0, q.1, p)

-- a program that goes on from s
pub record Ends (s : State) : Type 0 where
  pub more_tokens : List Token
  pub tree : Program
  pub proper : WellFormed tree
  pub completes : text_state s more_tokens ≡ text_program tree

ends_whole : (b : List Specification) (n : ℕ) (s : Specification) → Ends (specifying b n (whole s))
ends_whole b n s = record {
  more_tokens = mark kind.semicolon ∷ mark kind.skip ∷ [];
  tree = program (in_order b (comments_before n s ∷ [])) skip;
  proper = tt;
  completes = ap (before_front b) (comments_text n s _) ∙ front_text b (comments_before n s ∷ []) (mark kind.skip ∷ []);
}

-- whatever completes s after ts completes s', where ts leads from s' to s
ends_after : (s s' : State) (ts : List Token → List Token) → ((w : List Token) → text_state s' (ts w) ≡ text_state s w) → Ends s → Ends s'
ends_after s s' ts e h = record { more_tokens = ts h.more_tokens; tree = h.tree; proper = h.proper; completes = e h.more_tokens ∙ h.completes }

ends_specified : (b : List Specification) (n : ℕ) (x : Partial) (s : Specification) (ts : List Token → List Token)
    → ((w : List Token) → text_partial x (ts w) ≡ text_specification s w) → Ends (specifying b n x)
ends_specified b n x s ts e = ends_after (specifying b n (whole s)) (specifying b n x) ts (λ w. ap (λ (l : List Token). before_front b (comments n l)) (e w)) (ends_whole b n s)

ends_partial : (b : List Specification) (n : ℕ) (x : Partial) → Ends (specifying b n x)
ends_partial b n var_read = ends_specified b n var_read (var 0) (λ w. name 0 ∷ w) (λ w. refl)
ends_partial b n array_read = ends_specified b n array_read (array 0 (literal 0)) (λ w. name 0 ∷ mark kind.open_subscript ∷ number 0 ∷ mark kind.close_subscript ∷ w) (λ w. refl)
ends_partial b n (array_named x) = ends_specified b n (array_named x) (array x (literal 0)) (λ w. mark kind.open_subscript ∷ number 0 ∷ mark kind.close_subscript ∷ w) (λ w. refl)
ends_partial b n (array_opened x) = ends_specified b n (array_opened x) (array x (literal 0)) (λ w. number 0 ∷ mark kind.close_subscript ∷ w) (λ w. refl)
ends_partial b n (array_sized x c) = ends_specified b n (array_sized x c) (array x c) (λ w. mark kind.close_subscript ∷ w) (λ w. refl)
ends_partial b n val_read = ends_specified b n val_read (val 0 (literal 0)) (λ w. name 0 ∷ mark kind.equal ∷ number 0 ∷ w) (λ w. refl)
ends_partial b n (val_named x) = ends_specified b n (val_named x) (val x (literal 0)) (λ w. mark kind.equal ∷ number 0 ∷ w) (λ w. refl)
ends_partial b n (val_equated x) = ends_specified b n (val_equated x) (val x (literal 0)) (λ w. number 0 ∷ w) (λ w. refl)
ends_partial b n (whole s) = ends_whole b n s

-- the process p, or the expression e, or the operand a, in the hole of k
with_process : (k : ProcessContext) (p : Process) → FineProcess k → WellFormedProcess p → Ends (have_process p k)
with_process k p q h = let x = process_plugged k p q h in record { more_tokens = after_process k; tree = plug_process k p; proper = x.1; completes = x.0 }

with_expression : (k : ExpressionContext) (e : Expression) → FineExpression k → WellFormedExpression e → Ends (have_expression e k)
with_expression k e q h = let x = expression_plugged k e q h in record { more_tokens = after_expression k; tree = plug_expression k e; proper = x.1; completes = x.0 }

with_operand : (k : OperandContext) (a : Operand) → FineOperand k → WellFormedOperand a → Ends (have_operand a k)
with_operand k a q h = let x = operand_plugged k a q h in record { more_tokens = after_operand k; tree = plug_operand k a; proper = x.1; completes = x.0 }

pub ends : (s : State) → Fine s → Ends s
ends (at_front b n) q = ends_after _ (at_front b n) (λ w. mark kind.skip ∷ w) (λ w. in_comments_text n b (mark kind.skip ∷ w)) (with_process (in_comments n (top b)) skip (in_comments_fine n b) tt)
ends (specifying b n x) q = ends_partial b n x
ends (need_process k) q = ends_after _ (need_process k) (λ w. mark kind.skip ∷ w) (λ w. refl) (with_process k skip q tt)
ends (brace_opened k) q = ends_after _ (brace_opened k) (λ w. mark kind.close_brace ∷ w) (λ w. refl) (with_process k empty q tt)
ends (target n k) q = ends_after _ (target n k) (λ w. mark kind.becomes ∷ number 0 ∷ w) (λ w. refl) (with_process k (assign n (single (constant 0))) q tt)
ends (target_element n s k) q = ends_after _ (target_element n s k) (λ w. mark kind.becomes ∷ number 0 ∷ w) (λ w. refl) (with_process k (assign_element n s (single (constant 0))) q.1 (q.0, tt))
ends (have_process p k) q = with_process k p q.1 q.0
ends (need_expression k) q = ends_after _ (need_expression k) (λ w. number 0 ∷ w) (λ w. refl) (with_expression k (single (constant 0)) q tt)
ends (need_operand k) q = ends_after _ (need_operand k) (λ w. number 0 ∷ w) (λ w. refl) (with_operand k (constant 0) q tt)
ends (name_read n k) q = ends_after _ (name_read n k) (λ w. w) (λ w. refl) (with_operand k (variable n) q tt)
ends (have_operand a k) q = with_operand k a q.1 q.0
ends (have_expression e k) q = with_expression k e q.1 q.0
