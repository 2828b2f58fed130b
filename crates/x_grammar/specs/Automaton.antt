-- The reader of a list of tokens as an automaton: its state is a tree with a hole, a move reads one token. Definitions.
-- Rests on the grammar's trees. That it accepts exactly the programs is in GrammarExact.
use Rattle.std.specs.Prelude.{Bool, false, List, [], ◌∷◌, ℕ, zero, suc, eqb}
use Rattle.arm_word.specs.Choice.{pick}
use Rattle.x_spelling.specs.Kinds as kind
use Rattle.x_grammar.specs.Grammar.{Token, number, name, mark, Expression, single, monadic, diadic, Chain, last, more, Operand, constant, variable, element, bracketed, Process, skip, stop}
use Rattle.x_grammar.specs.Grammar.{assign, assign_element, empty, braces, conditional, while, after_comment, Processes, only, followed, Constant, literal, named, Specification, var, array}
use Rattle.x_grammar.specs.Grammar.{val, commented, Program, program, is_monadic, is_diadic, is_associative}

-- Trees with a hole. The specifications before the process stand with the latest first.
mutual
  pub data ProcessContext : Type 0 where
    top : List Specification → ProcessContext
    in_braces : ListContext → ProcessContext
    in_then : Expression → ProcessContext → ProcessContext
    in_else : Expression → Process → ProcessContext → ProcessContext
    in_body : Expression → ProcessContext → ProcessContext
    in_comment : ProcessContext → ProcessContext

  pub data ListContext : Type 0 where
    opened : ProcessContext → ListContext
    also : Process → ListContext → ListContext

mutual
  pub data ExpressionContext : Type 0 where
    in_assign : ℕ → ProcessContext → ExpressionContext
    in_target : ℕ → ProcessContext → ExpressionContext
    in_assign_element : ℕ → Expression → ProcessContext → ExpressionContext
    in_if : ProcessContext → ExpressionContext
    in_while : ProcessContext → ExpressionContext
    in_brackets : OperandContext → ExpressionContext
    in_subscript : ℕ → OperandContext → ExpressionContext

  pub data OperandContext : Type 0 where
    first : ExpressionContext → OperandContext
    under : ℕ → ExpressionContext → OperandContext
    next : ℕ → ChainContext → OperandContext

  pub data ChainContext : Type 0 where
    after : Operand → ExpressionContext → ChainContext
    link : Operand → ChainContext → ChainContext

-- what a chain stands in, and the expression that its operands make
abbrev pub chain_base : ChainContext → ExpressionContext
chain_base (after a k) = k
chain_base (link a k) = chain_base k

abbrev pub chain_built : ChainContext → ℕ → Chain → Expression
chain_built (after a k) o c = diadic o a c
chain_built (link a k) o c = chain_built k o (more a c)

abbrev pub list_base : ListContext → ProcessContext
list_base (opened k) = k
list_base (also p k) = list_base k

abbrev pub list_built : ListContext → Processes → Processes
list_built (opened k) ps = ps
list_built (also p k) ps = list_built k (followed p ps)

-- the specifications in the order of the text
abbrev pub in_order : List Specification → List Specification → List Specification
in_order [] ss = ss
in_order (s ∷ b) ss = in_order b (s ∷ ss)

-- after n comments
abbrev pub comments_before : ℕ → Specification → Specification
comments_before zero s = s
comments_before (suc n) s = comments_before n (commented s)

abbrev pub in_comments : ℕ → ProcessContext → ProcessContext
in_comments zero k = k
in_comments (suc n) k = in_comment (in_comments n k)

-- a specification as far as it was read
pub data Partial : Type 0 where
  var_read : Partial
  array_read : Partial
  array_named : ℕ → Partial
  array_opened : ℕ → Partial
  array_sized : ℕ → Constant → Partial
  val_read : Partial
  val_named : ℕ → Partial
  val_equated : ℕ → Partial
  whole : Specification → Partial

pub data State : Type 0 where
  at_front : List Specification → ℕ → State
  specifying : List Specification → ℕ → Partial → State
  need_process : ProcessContext → State
  brace_opened : ProcessContext → State
  target : ℕ → ProcessContext → State
  target_element : ℕ → Expression → ProcessContext → State
  have_process : Process → ProcessContext → State
  need_expression : ExpressionContext → State
  need_operand : OperandContext → State
  name_read : ℕ → OperandContext → State
  have_operand : Operand → OperandContext → State
  have_expression : Expression → ExpressionContext → State

pub data Move : Type 0 where
  go : State → Move
  none : Move

-- the token is a mark of kind k
abbrev pub is : ℕ → Token → Bool
is k (number v) = false
is k (name n) = false
is k (mark m) = eqb m k

-- a mark's kind
abbrev pub kind_of : Token → ℕ
kind_of (number v) = 0
kind_of (name n) = 0
kind_of (mark m) = m

-- a chain of operator o goes on with t
abbrev pub goes_on : ℕ → Token → Bool
goes_on o t = pick (is_associative o) (is o t) false

-- the move after a whole part, and where a part is needed
abbrev pub step_have_process : ProcessContext → Process → Token → Move
step_have_process (top b) p t = none
step_have_process (in_braces k) p t =
    pick (is kind.semicolon t) (go (need_process (in_braces (also p k)))) (pick (is kind.close_brace t) (go (have_process (braces (list_built k (only p))) (list_base k))) none)
step_have_process (in_then e k) p t = pick (is kind.else t) (go (need_process (in_else e p k))) none
step_have_process (in_else e q k) p t = step_have_process k (conditional e q p) t
step_have_process (in_body e k) p t = step_have_process k (while e p) t
step_have_process (in_comment k) p t = step_have_process k (after_comment p) t

abbrev pub step_have_expression : ExpressionContext → Expression → Token → Move
step_have_expression (in_assign n k) e t = step_have_process k (assign n e) t
step_have_expression (in_target n k) e t = pick (is kind.close_subscript t) (go (target_element n e k)) none
step_have_expression (in_assign_element n s k) e t = step_have_process k (assign_element n s e) t
step_have_expression (in_if k) e t = pick (is kind.then t) (go (need_process (in_then e k))) none
step_have_expression (in_while k) e t = pick (is kind.do_word t) (go (need_process (in_body e k))) none
step_have_expression (in_brackets k) e t = pick (is kind.close_bracket t) (go (have_operand (bracketed e) k)) none
step_have_expression (in_subscript n k) e t = pick (is kind.close_subscript t) (go (have_operand (element n e) k)) none

abbrev pub step_have_operand : OperandContext → Operand → Token → Move
step_have_operand (first k) a t = pick (is_diadic (kind_of t)) (go (need_operand (next (kind_of t) (after a k)))) (step_have_expression k (single a) t)
step_have_operand (under o k) a t = step_have_expression k (monadic o a) t
step_have_operand (next o k) a t = pick (goes_on o t) (go (need_operand (next o (link a k)))) (step_have_expression (chain_base k) (chain_built k o (last a)) t)

abbrev pub step_operand : Token → OperandContext → Move
step_operand (number v) k = go (have_operand (constant v) k)
step_operand (name n) k = go (name_read n k)
step_operand (mark m) k = pick (eqb m kind.open_bracket) (go (need_expression (in_brackets k))) none

abbrev pub step_expression : Token → ExpressionContext → Move
step_expression t k = pick (is_monadic (kind_of t)) (go (need_operand (under (kind_of t) k))) (step_operand t (first k))

abbrev pub step_process : Token → ProcessContext → Move
step_process (number v) k = none
step_process (name n) k = go (target n k)
step_process (mark m) k =
    pick (eqb m kind.skip) (go (have_process skip k))
    (pick (eqb m kind.stop) (go (have_process stop k))
    (pick (eqb m kind.open_brace) (go (brace_opened k))
    (pick (eqb m kind.if) (go (need_expression (in_if k)))
    (pick (eqb m kind.while) (go (need_expression (in_while k)))
    (pick (eqb m kind.comment) (go (need_process (in_comment k))) none)))))

-- a specification goes on as its next part
abbrev pub with_name : (ℕ → Move) → Token → Move
with_name f (number v) = none
with_name f (name n) = f n
with_name f (mark m) = none

abbrev pub with_constant : (Constant → Move) → Token → Move
with_constant f (number v) = f (literal v)
with_constant f (name n) = f (named n)
with_constant f (mark m) = none

abbrev pub step_partial : List Specification → ℕ → Partial → Token → Move
step_partial b n var_read t = with_name (λ x. go (specifying b n (whole (var x)))) t
step_partial b n array_read t = with_name (λ x. go (specifying b n (array_named x))) t
step_partial b n (array_named x) t = pick (is kind.open_subscript t) (go (specifying b n (array_opened x))) none
step_partial b n (array_opened x) t = with_constant (λ c. go (specifying b n (array_sized x c))) t
step_partial b n (array_sized x c) t = pick (is kind.close_subscript t) (go (specifying b n (whole (array x c)))) none
step_partial b n val_read t = with_name (λ x. go (specifying b n (val_named x))) t
step_partial b n (val_named x) t = pick (is kind.equal t) (go (specifying b n (val_equated x))) none
step_partial b n (val_equated x) t = with_constant (λ c. go (specifying b n (whole (val x c)))) t
step_partial b n (whole s) t = pick (is kind.semicolon t) (go (at_front (comments_before n s ∷ b) 0)) none

-- at the front: n comments, and then a specification or the process
abbrev pub step_front : List Specification → ℕ → Token → Move
step_front b n t =
    pick (is kind.comment t) (go (at_front b (suc n)))
    (pick (is kind.var t) (go (specifying b n var_read))
    (pick (is kind.array t) (go (specifying b n array_read))
    (pick (is kind.val t) (go (specifying b n val_read))
    (step_process t (in_comments n (top b))))))

abbrev pub step : State → Token → Move
step (at_front b n) t = step_front b n t
step (specifying b n x) t = step_partial b n x t
step (need_process k) t = step_process t k
step (brace_opened k) t = pick (is kind.close_brace t) (go (have_process empty k)) (step_process t (in_braces (opened k)))
step (target n k) t = pick (is kind.becomes t) (go (need_expression (in_assign n k))) (pick (is kind.open_subscript t) (go (need_expression (in_target n k))) none)
step (target_element n s k) t = pick (is kind.becomes t) (go (need_expression (in_assign_element n s k))) none
step (have_process p k) t = step_have_process k p t
step (need_expression k) t = step_expression t k
step (need_operand k) t = step_operand t k
step (name_read n k) t = pick (is kind.open_subscript t) (go (need_expression (in_subscript n k))) (step_have_operand k (variable n) t)
step (have_operand a k) t = step_have_operand k a t
step (have_expression e k) t = step_have_expression k e t

-- the tree, or what was left unread: "first token that no program continues with"
pub data Reading : Type 0 where
  accepted : Program → Reading
  refused : List Token → Reading

-- where no token is left
abbrev pub final_process : ProcessContext → Process → Reading
final_process (top b) p = accepted (program (in_order b []) p)
final_process (in_braces k) p = refused []
final_process (in_then e k) p = refused []
final_process (in_else e q k) p = final_process k (conditional e q p)
final_process (in_body e k) p = final_process k (while e p)
final_process (in_comment k) p = final_process k (after_comment p)

abbrev pub final_expression : ExpressionContext → Expression → Reading
final_expression (in_assign n k) e = final_process k (assign n e)
final_expression (in_target n k) e = refused []
final_expression (in_assign_element n s k) e = final_process k (assign_element n s e)
final_expression (in_if k) e = refused []
final_expression (in_while k) e = refused []
final_expression (in_brackets k) e = refused []
final_expression (in_subscript n k) e = refused []

abbrev pub final_operand : OperandContext → Operand → Reading
final_operand (first k) a = final_expression k (single a)
final_operand (under o k) a = final_expression k (monadic o a)
final_operand (next o k) a = final_expression (chain_base k) (chain_built k o (last a))

abbrev pub final : State → Reading
final (at_front b n) = refused []
final (specifying b n x) = refused []
final (need_process k) = refused []
final (brace_opened k) = refused []
final (target n k) = refused []
final (target_element n s k) = refused []
final (have_process p k) = final_process k p
final (need_expression k) = refused []
final (need_operand k) = refused []
final (name_read n k) = final_operand k (variable n)
final (have_operand a k) = final_operand k a
final (have_expression e k) = final_expression k e

-- a move for each token, and where none is left the state's own answer
abbrev pub onward : Move → List Token → (State → Reading) → Reading
onward none ts f = refused ts
onward (go s) ts f = f s

unfoldable pub run : List Token → State → Reading
run [] s = final s
run (t ∷ ts) s = onward (step s t) (t ∷ ts) (run ts)

-- the reading of a whole list of tokens
unfoldable pub reads : List Token → Reading
reads ts = run ts (at_front [] 0)
