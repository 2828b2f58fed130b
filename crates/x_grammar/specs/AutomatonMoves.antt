-- The automaton's moves as equations on `run`: what a proof about it cites, with `run` shut. Laws; rests on the automaton.
use Rattle.std.specs.Prelude.{◌≡◌, Bool, true, false, ℕ, eqb}
use Rattle.std.proofs.Math.Path.{refl}
use mathlib.Core.List.{List, [], ◌∷◌}
use Rattle.std.proofs.Common.{eq-eqb}
use Rattle.x_spelling.specs.Kinds as kind
use Rattle.x_grammar.specs.Grammar.{Token, number, name, mark, Expression, single, monadic, last, Operand, constant, variable, element, bracketed, Process, skip, stop, assign, assign_element}
use Rattle.x_grammar.specs.Grammar.{empty, braces, conditional, while, after_comment, only, is_monadic, is_diadic, is_associative}
use Rattle.x_grammar.specs.Automaton.{ProcessContext, in_braces, in_then, in_else, in_body, in_comment, ListContext, opened, also, ExpressionContext, in_assign, in_target, in_assign_element}
use Rattle.x_grammar.specs.Automaton.{in_if, in_while, in_brackets, in_subscript, OperandContext, first, under, next, ChainContext, after, link, chain_base, chain_built, list_base}
use Rattle.x_grammar.specs.Automaton.{list_built, need_process, brace_opened, target, target_element, have_process, need_expression, need_operand, name_read, have_operand, have_expression}
use Rattle.x_grammar.specs.Automaton.{is, kind_of, goes_on, refused, run}

-- the first token passes a test
abbrev pub head_is : (Token → Bool) → List Token → Bool
head_is f [] = false
head_is f (t ∷ ts) = f t

abbrev pub opens : List Token → Bool
opens w = head_is (is kind.open_subscript) w

abbrev pub joins : List Token → Bool
joins w = head_is (λ t. is_diadic (kind_of t)) w

abbrev pub negates : List Token → Bool
negates w = head_is (λ t. is_monadic (kind_of t)) w

-- operands
module _ (w : List Token) (k : OperandContext) where
  pub run_number : (v : ℕ) → run (number v ∷ w) (need_operand k) ≡ run w (have_operand (constant v) k)
  unfolding run
  run_number v = refl

  pub run_name : (n : ℕ) → run (name n ∷ w) (need_operand k) ≡ run w (name_read n k)
  unfolding run
  run_name n = refl

  pub run_brackets : run (mark kind.open_bracket ∷ w) (need_operand k) ≡ run w (need_expression (in_brackets k))
  unfolding run
  run_brackets = refl

  pub run_brackets_end : (e : Expression) → run (mark kind.close_bracket ∷ w) (have_expression e (in_brackets k)) ≡ run w (have_operand (bracketed e) k)
  unfolding run
  run_brackets_end e = refl

  pub run_subscript : (n : ℕ) → run (mark kind.open_subscript ∷ w) (name_read n k) ≡ run w (need_expression (in_subscript n k))
  unfolding run
  run_subscript n = refl

  pub run_subscript_end : (n : ℕ) (e : Expression) → run (mark kind.close_subscript ∷ w) (have_expression e (in_subscript n k)) ≡ run w (have_operand (element n e) k)
  unfolding run
  run_subscript_end n e = refl

  pub run_operand_stop : (m : ℕ) → eqb m kind.open_bracket ≡ false → run (mark m ∷ w) (need_operand k) ≡ refused (mark m ∷ w)
  unfolding run
  run_operand_stop m h = rw h

pub run_operand_end : (k : OperandContext) → run [] (need_operand k) ≡ refused []
unfolding run
run_operand_end k = refl

pub run_variable : (w : List Token) (k : OperandContext) (n : ℕ) → opens w ≡ false → run w (name_read n k) ≡ run w (have_operand (variable n) k)
unfolding run
run_variable [] k n h = refl
run_variable (t ∷ w) k n h = rw h

pub run_brackets_stop : (w : List Token) (k : OperandContext) (e : Expression) → head_is (is kind.close_bracket) w ≡ false → run w (have_expression e (in_brackets k)) ≡ refused w
unfolding run
run_brackets_stop [] k e h = refl
run_brackets_stop (t ∷ w) k e h = rw h

pub run_subscript_stop : (w : List Token) (k : OperandContext) (n : ℕ) (e : Expression) → head_is (is kind.close_subscript) w ≡ false → run w (have_expression e (in_subscript n k)) ≡ refused w
unfolding run
run_subscript_stop [] k n e h = refl
run_subscript_stop (t ∷ w) k n e h = rw h

-- expressions
pub run_expression : (w : List Token) (k : ExpressionContext) → negates w ≡ false → run w (need_expression k) ≡ run w (need_operand (first k))
unfolding run
run_expression [] k h = refl
run_expression (t ∷ w) k h = rw h

pub run_monadic : (w : List Token) (k : ExpressionContext) (o : ℕ) → is_monadic o ≡ true → run (mark o ∷ w) (need_expression k) ≡ run w (need_operand (under o k))
unfolding run
run_monadic w k o h = rw h

pub run_under : (w : List Token) (k : ExpressionContext) (o : ℕ) (a : Operand) → run w (have_operand a (under o k)) ≡ run w (have_expression (monadic o a) k)
unfolding run
run_under [] k o a = refl
run_under (t ∷ w) k o a = refl

pub run_single : (w : List Token) (k : ExpressionContext) (a : Operand) → joins w ≡ false → run w (have_operand a (first k)) ≡ run w (have_expression (single a) k)
unfolding run
run_single [] k a h = refl
run_single (t ∷ w) k a h = rw h

pub run_diadic : (w : List Token) (k : ExpressionContext) (o : ℕ) (a : Operand) → is_diadic o ≡ true → run (mark o ∷ w) (have_operand a (first k)) ≡ run w (need_operand (next o (after a k)))
unfolding run
run_diadic w k o a h = rw h

pub run_last : (w : List Token) (k : ChainContext) (o : ℕ) (a : Operand) → head_is (goes_on o) w ≡ false
    → run w (have_operand a (next o k)) ≡ run w (have_expression (chain_built k o (last a)) (chain_base k))
unfolding run
run_last [] k o a h = refl
run_last (t ∷ w) k o a h = rw h

pub run_link : (w : List Token) (k : ChainContext) (o : ℕ) (a : Operand) → is_associative o ≡ true → run (mark o ∷ w) (have_operand a (next o k)) ≡ run w (need_operand (next o (link a k)))
unfolding run
run_link w k o a h = rw (h, eq-eqb o o refl)

-- processes
module _ (w : List Token) (k : ProcessContext) where
  pub run_skip : run (mark kind.skip ∷ w) (need_process k) ≡ run w (have_process skip k)
  unfolding run
  run_skip = refl

  pub run_stop : run (mark kind.stop ∷ w) (need_process k) ≡ run w (have_process stop k)
  unfolding run
  run_stop = refl

  pub run_comment : run (mark kind.comment ∷ w) (need_process k) ≡ run w (need_process (in_comment k))
  unfolding run
  run_comment = refl

  pub run_target : (n : ℕ) → run (name n ∷ w) (need_process k) ≡ run w (target n k)
  unfolding run
  run_target n = refl

  pub run_becomes : (n : ℕ) → run (mark kind.becomes ∷ w) (target n k) ≡ run w (need_expression (in_assign n k))
  unfolding run
  run_becomes n = refl

  pub run_target_subscript : (n : ℕ) → run (mark kind.open_subscript ∷ w) (target n k) ≡ run w (need_expression (in_target n k))
  unfolding run
  run_target_subscript n = refl

  pub run_target_end : (n : ℕ) (s : Expression) → run (mark kind.close_subscript ∷ w) (have_expression s (in_target n k)) ≡ run w (target_element n s k)
  unfolding run
  run_target_end n s = refl

  pub run_element_becomes : (n : ℕ) (s : Expression) → run (mark kind.becomes ∷ w) (target_element n s k) ≡ run w (need_expression (in_assign_element n s k))
  unfolding run
  run_element_becomes n s = refl

  pub run_open : run (mark kind.open_brace ∷ w) (need_process k) ≡ run w (brace_opened k)
  unfolding run
  run_open = refl

  pub run_empty : run (mark kind.close_brace ∷ w) (brace_opened k) ≡ run w (have_process empty k)
  unfolding run
  run_empty = refl

  pub run_if : run (mark kind.if ∷ w) (need_process k) ≡ run w (need_expression (in_if k))
  unfolding run
  run_if = refl

  pub run_then : (e : Expression) → run (mark kind.then ∷ w) (have_expression e (in_if k)) ≡ run w (need_process (in_then e k))
  unfolding run
  run_then e = refl

  pub run_else : (e : Expression) (p : Process) → run (mark kind.else ∷ w) (have_process p (in_then e k)) ≡ run w (need_process (in_else e p k))
  unfolding run
  run_else e p = refl

  pub run_while : run (mark kind.while ∷ w) (need_process k) ≡ run w (need_expression (in_while k))
  unfolding run
  run_while = refl

  pub run_do : (e : Expression) → run (mark kind.do_word ∷ w) (have_expression e (in_while k)) ≡ run w (need_process (in_body e k))
  unfolding run
  run_do e = refl

  pub run_process_stop : (m : ℕ) → eqb m kind.skip ≡ false → eqb m kind.stop ≡ false → eqb m kind.open_brace ≡ false → eqb m kind.if ≡ false → eqb m kind.while ≡ false
      → eqb m kind.comment ≡ false → run (mark m ∷ w) (need_process k) ≡ refused (mark m ∷ w)
  unfolding run
  run_process_stop m a b c d e f = rw (a, b, c, d, e, f)

  pub run_process_number : (v : ℕ) → run (number v ∷ w) (need_process k) ≡ refused (number v ∷ w)
  unfolding run
  run_process_number v = refl

pub run_process_end : (k : ProcessContext) → run [] (need_process k) ≡ refused []
unfolding run
run_process_end k = refl

module _ (k : ProcessContext) where
  pub run_assigned : (w : List Token) (n : ℕ) (e : Expression) → run w (have_expression e (in_assign n k)) ≡ run w (have_process (assign n e) k)
  unfolding run
  run_assigned [] n e = refl
  run_assigned (t ∷ w) n e = refl

  pub run_element_assigned : (w : List Token) (n : ℕ) (s e : Expression) → run w (have_expression e (in_assign_element n s k)) ≡ run w (have_process (assign_element n s e) k)
  unfolding run
  run_element_assigned [] n s e = refl
  run_element_assigned (t ∷ w) n s e = refl

  pub run_opened : (w : List Token) → head_is (is kind.close_brace) w ≡ false → run w (brace_opened k) ≡ run w (need_process (in_braces (opened k)))
  unfolding run
  run_opened [] h = refl
  run_opened (t ∷ w) h = rw h

  pub run_conditional : (w : List Token) (e : Expression) (p q : Process) → run w (have_process q (in_else e p k)) ≡ run w (have_process (conditional e p q) k)
  unfolding run
  run_conditional [] e p q = refl
  run_conditional (t ∷ w) e p q = refl

  pub run_repeated : (w : List Token) (e : Expression) (p : Process) → run w (have_process p (in_body e k)) ≡ run w (have_process (while e p) k)
  unfolding run
  run_repeated [] e p = refl
  run_repeated (t ∷ w) e p = refl

  pub run_commented : (w : List Token) (p : Process) → run w (have_process p (in_comment k)) ≡ run w (have_process (after_comment p) k)
  unfolding run
  run_commented [] p = refl
  run_commented (t ∷ w) p = refl

  pub run_target_stop : (w : List Token) (n : ℕ) → head_is (is kind.becomes) w ≡ false → head_is (is kind.open_subscript) w ≡ false → run w (target n k) ≡ refused w
  unfolding run
  run_target_stop [] n g h = refl
  run_target_stop (t ∷ w) n g h = rw (g, h)

  pub run_target_end_stop : (w : List Token) (n : ℕ) (s : Expression) → head_is (is kind.close_subscript) w ≡ false → run w (have_expression s (in_target n k)) ≡ refused w
  unfolding run
  run_target_end_stop [] n s h = refl
  run_target_end_stop (t ∷ w) n s h = rw h

  pub run_element_stop : (w : List Token) (n : ℕ) (s : Expression) → head_is (is kind.becomes) w ≡ false → run w (target_element n s k) ≡ refused w
  unfolding run
  run_element_stop [] n s h = refl
  run_element_stop (t ∷ w) n s h = rw h

  pub run_then_stop : (w : List Token) (e : Expression) → head_is (is kind.then) w ≡ false → run w (have_expression e (in_if k)) ≡ refused w
  unfolding run
  run_then_stop [] e h = refl
  run_then_stop (t ∷ w) e h = rw h

  pub run_else_stop : (w : List Token) (e : Expression) (p : Process) → head_is (is kind.else) w ≡ false → run w (have_process p (in_then e k)) ≡ refused w
  unfolding run
  run_else_stop [] e p h = refl
  run_else_stop (t ∷ w) e p h = rw h

  pub run_do_stop : (w : List Token) (e : Expression) → head_is (is kind.do_word) w ≡ false → run w (have_expression e (in_while k)) ≡ refused w
  unfolding run
  run_do_stop [] e h = refl
  run_do_stop (t ∷ w) e h = rw h

-- lists of processes
module _ (p : Process) (k : ListContext) where
  pub run_close : (w : List Token) → run (mark kind.close_brace ∷ w) (have_process p (in_braces k)) ≡ run w (have_process (braces (list_built k (only p))) (list_base k))
  unfolding run
  run_close w = refl

  pub run_semicolon : (w : List Token) → run (mark kind.semicolon ∷ w) (have_process p (in_braces k)) ≡ run w (need_process (in_braces (also p k)))
  unfolding run
  run_semicolon w = refl

  pub run_list_stop : (w : List Token) → head_is (is kind.semicolon) w ≡ false → head_is (is kind.close_brace) w ≡ false → run w (have_process p (in_braces k)) ≡ refused w
  unfolding run
  run_list_stop [] g h = refl
  run_list_stop (t ∷ w) g h = rw (g, h)
