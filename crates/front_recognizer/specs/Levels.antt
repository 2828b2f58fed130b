-- What the levels say of a program: where none reached the limit of depth it nests within that limit, and where one did it is too deep. Laws; assume nothing.
-- One walk over the automaton's moves shows both: a move to a level below the limit keeps the nesting within it, and no move makes a tree that is too deep less so.
use Rattle.std.specs.Prelude.{◌≡◌, refl, Bool, true, false, List, [], ℕ, zero, suc, ◌+◌, ◌<◌, ◌≤◌, max, min, eqb, ltb}
use Rattle.std.proofs.Common.{subst, arith, ltb-true, ltb-false}
use Rattle.arm_word.specs.Choice.{pick}
use Rattle.arm_word.specs.ChoiceLaws.{by_test}
use Rattle.x_spelling.specs.Kinds as kind
use Rattle.x_grammar.specs.Grammar.{Token, number, name, mark, Expression, single, monadic, Chain, last, more, Operand, constant, variable, element, bracketed, Process, skip, assign}
use Rattle.x_grammar.specs.Grammar.{assign_element, braces, conditional, while, after_comment, Processes, only, followed, Constant, literal, named, Specification, Program, is_monadic, is_diadic}
use Rattle.x_grammar.specs.Grammar.{val}
use Rattle.x_grammar.specs.Automaton.{ProcessContext, top, in_braces, in_then, in_else, in_body, in_comment, ListContext, opened, also, ExpressionContext, in_assign, in_target, in_assign_element}
use Rattle.x_grammar.specs.Automaton.{in_if, in_while, in_brackets, in_subscript, OperandContext, first, under, next, ChainContext, after, link, chain_base, chain_built, list_base, list_built}
use Rattle.x_grammar.specs.Automaton.{in_comments, Partial, var_read, array_read, array_named, array_opened, array_sized, val_read, val_named, val_equated, whole, State, at_front, specifying}
use Rattle.x_grammar.specs.Automaton.{need_process, brace_opened, target, target_element, have_process, need_expression, need_operand, name_read, have_operand, have_expression, Move, go, none, is}
use Rattle.x_grammar.specs.Automaton.{kind_of, goes_on, step_have_process, step_have_expression, step_have_operand, step_operand, step_expression, step_process, with_name, with_constant}
use Rattle.x_grammar.specs.Automaton.{step_partial, step_front, step, Reading, accepted, refused, final_process, final_expression, final_operand, final}
use Rattle.x_grammar.specs.TreeDepth.{depth_process, depth_processes, depth, deepest, depth_limit, too_deep}
use Rattle.x_grammar.specs.Nesting.{nesting_process, nesting_processes, nesting_expression, nesting_chain, nesting_operand, within_process, within_processes, nesting}
use Rattle.x_grammar.proofs.NestingLaws.{nests_within}
use Rattle.front_recognizer.specs.Pushdown.{configuration, counted, level_process, level_list, level_expression, level_operand, level_chain}

-- within the limit
abbrev pub Low : ℕ → Type 0
Low n = n ≤ depth_limit

-- ── what was read is within the limit: processes by the number `of` (their nesting, or their depth), expressions by their nesting ──
module _ (of : Process → ℕ) where
  -- a process at level l
  abbrev Fits : ℕ → Process → Type 0
  Fits l p = Low (l + of p) × Low (within_process p)

  -- around a hole
  abbrev mutual
    AroundProcess : ProcessContext → Type 0
    AroundProcess (top b) = Unit {0}
    AroundProcess (in_braces c) = AroundList c
    AroundProcess (in_then e c) = (AroundProcess c × Low (suc (level_process c))) × Low (nesting_expression e)
    AroundProcess (in_else e p c) = ((AroundProcess c × Low (suc (level_process c))) × Low (nesting_expression e)) × Fits (suc (level_process c)) p
    AroundProcess (in_body e c) = (AroundProcess c × Low (suc (level_process c))) × Low (nesting_expression e)
    AroundProcess (in_comment c) = AroundProcess c

    AroundList : ListContext → Type 0
    AroundList (opened c) = AroundProcess c × Low (suc (level_process c))
    AroundList (also p c) = AroundList c × Fits (level_list c) p

  -- and in the hole a process that has parts
  abbrev Started : ProcessContext → Type 0
  Started c = AroundProcess c × Low (suc (level_process c))

  abbrev mutual
    AroundExpression : ExpressionContext → Type 0
    AroundExpression (in_assign n c) = Started c
    AroundExpression (in_target n c) = Started c
    AroundExpression (in_assign_element n s c) = Started c × Low (suc (nesting_expression s))
    AroundExpression (in_if c) = AroundProcess c
    AroundExpression (in_while c) = AroundProcess c
    AroundExpression (in_brackets c) = AroundOperand c
    AroundExpression (in_subscript n c) = AroundOperand c

    AroundOperand : OperandContext → Type 0
    AroundOperand (first c) = AroundExpression c
    AroundOperand (under o c) = AroundExpression c
    AroundOperand (next o c) = AroundChain c

    AroundChain : ChainContext → Type 0
    AroundChain (after a c) = AroundExpression c × Low (level_expression c + nesting_operand a)
    AroundChain (link a c) = AroundChain c × Low (level_chain c + nesting_operand a)

  abbrev Within : State → Type 0
  Within (at_front b n) = Unit {0}
  Within (specifying b n x) = Unit {0}
  Within (need_process c) = AroundProcess c
  Within (brace_opened c) = Started c
  Within (target n c) = Started c
  Within (target_element n s c) = Started c × Low (suc (nesting_expression s))
  Within (have_process p c) = AroundProcess c × Fits (level_process c) p
  Within (need_expression c) = AroundExpression c
  Within (need_operand c) = AroundOperand c
  Within (name_read n c) = AroundOperand c × Low (suc (level_operand c))
  Within (have_operand a c) = AroundOperand c × Low (level_operand c + nesting_operand a)
  Within (have_expression e c) = AroundExpression c × Low (level_expression c + nesting_expression e)

-- the level of the process that an expression is in
abbrev mutual
  outside_expression : ExpressionContext → ℕ
  outside_expression (in_assign n c) = level_process c
  outside_expression (in_target n c) = level_process c
  outside_expression (in_assign_element n s c) = level_process c
  outside_expression (in_if c) = level_process c
  outside_expression (in_while c) = level_process c
  outside_expression (in_brackets c) = outside_operand c
  outside_expression (in_subscript n c) = outside_operand c

  outside_operand : OperandContext → ℕ
  outside_operand (first c) = outside_expression c
  outside_operand (under o c) = outside_expression c
  outside_operand (next o c) = outside_chain c

  outside_chain : ChainContext → ℕ
  outside_chain (after a c) = outside_expression c
  outside_chain (link a c) = outside_chain c

-- so is what must follow, of depth 1 at least
abbrev Ahead : State → Type 0
Ahead (at_front b n) = Unit {0}
Ahead (specifying b n x) = Unit {0}
Ahead (need_process c) = Low (suc (level_process c))
Ahead (brace_opened c) = Unit {0}
Ahead (target n c) = Unit {0}
Ahead (target_element n s c) = Unit {0}
Ahead (have_process p c) = Unit {0}
Ahead (need_expression c) = Low (suc (outside_expression c)) × Low (suc (level_expression c))
Ahead (need_operand c) = Low (suc (outside_operand c)) × Low (suc (level_operand c))
Ahead (name_read n c) = Low (suc (outside_operand c))
Ahead (have_operand a c) = Low (suc (outside_operand c))
Ahead (have_expression e c) = Low (suc (outside_expression c))

-- the tree so far nests within the limit
abbrev Nests : State → Type 0
Nests s = Within nesting_process s

-- and is not too deep
abbrev Shallow : State → Type 0
Shallow s = Within depth_process s × Ahead s

-- a state's level, before it is counted
abbrev pub level : State → ℕ
level (at_front b n) = 0
level (specifying b n x) = 0
level (need_process c) = level_process c
level (brace_opened c) = level_process c
level (target n c) = level_process c
level (target_element n s c) = level_process c
level (have_process p c) = 0
level (need_expression c) = level_expression c
level (need_operand c) = level_operand c
level (name_read n c) = level_operand c
level (have_operand a c) = level_operand c
level (have_expression e c) = 0

-- ── the moves ──
-- the nesting stays within the limit where the new level is below it; and a tree that is not too deep comes from one that is not
abbrev pub Moved : State → State → Type 0
Moved s s' = (Nests s → Low (suc (level s')) → Nests s') × (Shallow s' → Shallow s)

abbrev pub To : State → Move → Type 0
To s none = Unit {0}
To s (go s') = Moved s s'

either_way : (s : State) (b : Bool) (l m : Move) → To s l → To s m → To s (pick b l m)
either_way s true l m p q = p
either_way s false l m p q = q

-- u is s with the part that was read last taken as whole, or with the first part of what is needed
abbrev As : State → State → Type 0
As s u = (Nests s → Nests u) × (Shallow u → Shallow s)

onto : (s u : State) (m : Move) → As s u → To u m → To s m
onto s u none h g = tt
onto s u (go s') h g = (λ x l. g.0 (h.0 x) l, λ x. h.1 (g.1 x))

-- a list, where it stands
abbrev listed : ListContext → Processes → State
listed c ps = have_process (braces (list_built c ps)) (list_base c)

whole_list : (c : ListContext) (ps : Processes) → AroundList nesting_process c → Low (level_list c + nesting_processes ps) → Low (within_processes ps) → Nests (listed c ps)
whole_list (opened c) ps h x y = (h.0, (omega arith, y))
whole_list (also p c) ps h x y = whole_list c (followed p ps) h.0 (omega arith) (omega arith)

from_list : (c : ListContext) (ps : Processes) → Shallow (listed c ps) → AroundList depth_process c × Low (level_list c + depth_processes ps) × Low (within_processes ps)
from_list (opened c) ps h = ((h.0.0, omega arith), omega arith, omega arith)
from_list (also p c) ps h = let g = from_list c (followed p ps) h in ((g.0, (omega arith, omega arith)), omega arith, omega arith)

-- a chain, where it stands
abbrev joined : ChainContext → ℕ → Chain → State
joined c o x = have_expression (chain_built c o x) (chain_base c)

whole_chain : (c : ChainContext) (o : ℕ) (x : Chain) → AroundChain nesting_process c → Low (level_chain c + nesting_chain x) → Nests (joined c o x)
whole_chain (after a c) o x h y = (h.0, omega arith)
whole_chain (link a c) o x h y = whole_chain c o (more a x) h.0 (omega arith)

from_chain : (c : ChainContext) (o : ℕ) (x : Chain) → Shallow (joined c o x) → (AroundChain depth_process c × Low (level_chain c + nesting_chain x)) × Low (suc (outside_chain c))
from_chain (after a c) o x h = (((h.0.0, omega arith), omega arith), h.1)
from_chain (link a c) o x h = let g = from_chain c o (more a x) h in (((g.0.0, omega arith), omega arith), g.1)

-- ── a part is whole ──
branch : (e : Expression) (q p : Process) (c : ProcessContext) → As (have_process p (in_else e q c)) (have_process (conditional e q p) c)
branch e q p c = (λ h. (h.0.0.0.0, (omega arith, omega arith)), λ h. (((((h.0.0, omega arith), omega arith), (omega arith, omega arith)), (omega arith, omega arith)), tt))

body : (e : Expression) (p : Process) (c : ProcessContext) → As (have_process p (in_body e c)) (have_process (while e p) c)
body e p c = (λ h. (h.0.0.0, (omega arith, omega arith)), λ h. ((((h.0.0, omega arith), omega arith), (omega arith, omega arith)), tt))

commented : (p : Process) (c : ProcessContext) → As (have_process p (in_comment c)) (have_process (after_comment p) c)
commented p c = (λ h. h, λ h. h)

assigned : (n : ℕ) (e : Expression) (c : ProcessContext) → As (have_expression e (in_assign n c)) (have_process (assign n e) c)
assigned n e c = (λ h. (h.0.0, (omega arith, omega arith)), λ h. (((h.0.0, omega arith), omega arith), omega arith))

assigned_element : (n : ℕ) (s e : Expression) (c : ProcessContext) → As (have_expression e (in_assign_element n s c)) (have_process (assign_element n s e) c)
assigned_element n s e c = (λ h. (h.0.0.0, (omega arith, omega arith)), λ h. ((((h.0.0, omega arith), omega arith), omega arith), omega arith))

alone : (a : Operand) (c : ExpressionContext) → As (have_operand a (first c)) (have_expression (single a) c)
alone a c = (λ h. h, λ h. h)

negated : (o : ℕ) (a : Operand) (c : ExpressionContext) → As (have_operand a (under o c)) (have_expression (monadic o a) c)
negated o a c = (λ h. (h.0, omega arith), λ h. ((h.0.0, omega arith), h.1))

chained : (o : ℕ) (a : Operand) (c : ChainContext) → As (have_operand a (next o c)) (joined c o (last a))
chained o a c = (λ h. whole_chain c o (last a) h.0 h.1, λ h. from_chain c o (last a) h)

by_name : (n : ℕ) (c : OperandContext) → As (name_read n c) (have_operand (variable n) c)
by_name n c = (λ h. (h.0, omega arith), λ h. ((h.0.0, omega arith), h.1))

to_process : (c : ProcessContext) (p : Process) (t : Token) → To (have_process p c) (step_have_process c p t)
to_process (top b) p t = tt
to_process (in_braces c) p t =
    either_way (have_process p (in_braces c)) (is kind.semicolon t) _ _ (λ h l. h, λ h. (h.0, tt))
    (either_way (have_process p (in_braces c)) (is kind.close_brace t) _ none
    (λ h l. whole_list c (only p) h.0 (omega arith) (omega arith), λ h. let g = from_list c (only p) h in ((g.0, (omega arith, omega arith)), tt)) tt)
to_process (in_then e c) p t = either_way (have_process p (in_then e c)) (is kind.else t) _ none (λ h l. h, λ h. (h.0, tt)) tt
to_process (in_else e q c) p t =
    onto (have_process p (in_else e q c)) (have_process (conditional e q p) c) (step_have_process c (conditional e q p) t) (branch e q p c) (to_process c (conditional e q p) t)
to_process (in_body e c) p t = onto (have_process p (in_body e c)) (have_process (while e p) c) (step_have_process c (while e p) t) (body e p c) (to_process c (while e p) t)
to_process (in_comment c) p t =
    onto (have_process p (in_comment c)) (have_process (after_comment p) c) (step_have_process c (after_comment p) t) (commented p c) (to_process c (after_comment p) t)

to_expression : (c : ExpressionContext) (e : Expression) (t : Token) → To (have_expression e c) (step_have_expression c e t)
to_expression (in_assign n c) e t = onto (have_expression e (in_assign n c)) (have_process (assign n e) c) (step_have_process c (assign n e) t) (assigned n e c) (to_process c (assign n e) t)
to_expression (in_target n c) e t = either_way (have_expression e (in_target n c)) (is kind.close_subscript t) _ none (λ h l. (h.0, omega arith), λ h. ((h.0.0, omega arith), h.0.0.1)) tt
to_expression (in_assign_element n s c) e t =
    onto (have_expression e (in_assign_element n s c)) (have_process (assign_element n s e) c) (step_have_process c (assign_element n s e) t) (assigned_element n s e c) (to_process c
    (assign_element n s e) t)
to_expression (in_if c) e t = either_way (have_expression e (in_if c)) (is kind.then t) _ none (λ h l. ((h.0, omega arith), omega arith), λ h. ((h.0.0.0, omega arith), h.0.0.1)) tt
to_expression (in_while c) e t = either_way (have_expression e (in_while c)) (is kind.do_word t) _ none (λ h l. ((h.0, omega arith), omega arith), λ h. ((h.0.0.0, omega arith), h.0.0.1)) tt
to_expression (in_brackets c) e t = either_way (have_expression e (in_brackets c)) (is kind.close_bracket t) _ none (λ h l. (h.0, omega arith), λ h. ((h.0.0, omega arith), h.1)) tt
to_expression (in_subscript n c) e t = either_way (have_expression e (in_subscript n c)) (is kind.close_subscript t) _ none (λ h l. (h.0, omega arith), λ h. ((h.0.0, omega arith), h.1)) tt

to_operand : (c : OperandContext) (a : Operand) (t : Token) → To (have_operand a c) (step_have_operand c a t)
to_operand (first c) a t =
    either_way (have_operand a (first c)) (is_diadic (kind_of t)) _ _ (λ h l. h, λ h. (h.0, h.1.0)) (onto (have_operand a (first c)) (have_expression (single a) c)
    (step_have_expression c (single a) t) (alone a c) (to_expression c (single a) t))
to_operand (under o c) a t = onto (have_operand a (under o c)) (have_expression (monadic o a) c) (step_have_expression c (monadic o a) t) (negated o a c) (to_expression c (monadic o a) t)
to_operand (next o c) a t =
    either_way (have_operand a (next o c)) (goes_on o t) _ _ (λ h l. h, λ h. (h.0, h.1.0)) (onto (have_operand a (next o c)) (joined c o (last a)) (step_have_expression (chain_base c)
    (chain_built c o (last a)) t) (chained o a c) (to_expression (chain_base c) (chain_built c o (last a)) t))

-- ── a part begins ──
from_operand : (c : OperandContext) (t : Token) → To (need_operand c) (step_operand t c)
from_operand c (number v) = (λ h l. (h, omega arith), λ h. (h.0.0, (h.1, omega arith)))
from_operand c (name n) = (λ h l. (h, l), λ h. (h.0.0, (h.1, h.0.1)))
from_operand c (mark m) = either_way (need_operand c) (eqb m kind.open_bracket) _ none (λ h l. h, λ h. (h.0, (h.1.0, omega arith))) tt

from_expression : (c : ExpressionContext) (t : Token) → To (need_expression c) (step_expression t c)
from_expression c t =
    either_way (need_expression c) (is_monadic (kind_of t)) _ _ (λ h l. h, λ h. (h.0, (h.1.0, omega arith)))
    (onto (need_expression c) (need_operand (first c)) (step_operand t (first c)) (λ h. h, λ h. h) (from_operand (first c) t))

-- a hole's level is that of what was read around it: so skip and stop, which call no reader, add nothing
mutual
  level_within : (c : ProcessContext) → AroundProcess nesting_process c → Low (level_process c)
  level_within (top b) h = omega arith
  level_within (in_braces c) h = list_within c h
  level_within (in_then e c) h = omega arith
  level_within (in_else e p c) h = omega arith
  level_within (in_body e c) h = omega arith
  level_within (in_comment c) h = level_within c h

  list_within : (c : ListContext) → AroundList nesting_process c → Low (level_list c)
  list_within (opened c) h = omega arith
  list_within (also p c) h = list_within c h.0

from_process : (c : ProcessContext) (t : Token) → To (need_process c) (step_process t c)
from_process c (number v) = tt
from_process c (name n) = (λ h l. (h, l), λ h. (h.0.0, h.0.1))
from_process c (mark m) =
    either_way (need_process c) (eqb m kind.skip) _ _ begins
    (either_way (need_process c) (eqb m kind.stop) _ _ begins
    (either_way (need_process c) (eqb m kind.open_brace) _ _ (λ h l. (h, l), λ h. (h.0.0, h.0.1))
    (either_way (need_process c) (eqb m kind.if) _ _ (λ h l. h, λ h. (h.0, h.1.0))
    (either_way (need_process c) (eqb m kind.while) _ _ (λ h l. h, λ h. (h.0, h.1.0)) (either_way (need_process c) (eqb m kind.comment) _ none (λ h l. h, λ h. h) tt)))))
  where
    begins : Moved (need_process c) (have_process skip c)
    begins = (λ h l. (h, (omega (arith, level_within c h), omega arith)), λ h. (h.0.0, omega arith))

around_comments : (n : ℕ) (b : List Specification) → AroundProcess nesting_process (in_comments n (top b))
around_comments zero b = tt
around_comments (suc n) b = around_comments n b

from_front : (b : List Specification) (n : ℕ) (t : Token) → To (at_front b n) (step_front b n t)
from_front b n t =
    either_way (at_front b n) (is kind.comment t) _ _ (λ h l. tt, λ h. h)
    (either_way (at_front b n) (is kind.var t) _ _ (λ h l. tt, λ h. h)
    (either_way (at_front b n) (is kind.array t) _ _ (λ h l. tt, λ h. h)
    (either_way (at_front b n) (is kind.val t) _ _ (λ h l. tt, λ h. h)
    (onto (at_front b n) (need_process (in_comments n (top b))) (step_process t (in_comments n (top b))) (λ h. around_comments n b, λ h. (tt, tt)) (from_process (in_comments n
    (top b)) t)))))

-- within a specification
at_name : (s : State) (f : ℕ → Move) (t : Token) → ((n : ℕ) → To s (f n)) → To s (with_name f t)
at_name s f (number v) h = tt
at_name s f (name n) h = h n
at_name s f (mark m) h = tt

at_constant : (s : State) (f : Constant → Move) (t : Token) → ((c : Constant) → To s (f c)) → To s (with_constant f t)
at_constant s f (number v) h = h (literal v)
at_constant s f (name n) h = h (named n)
at_constant s f (mark m) h = tt

from_partial : (b : List Specification) (n : ℕ) (x : Partial) (t : Token) → To (specifying b n x) (step_partial b n x t)
from_partial b n var_read t = at_name (specifying b n var_read) _ t (λ x. (λ h l. tt, λ h. h))
from_partial b n array_read t = at_name (specifying b n array_read) _ t (λ x. (λ h l. tt, λ h. h))
from_partial b n (array_named x) t = either_way (specifying b n (array_named x)) (is kind.open_subscript t) _ none (λ h l. tt, λ h. h) tt
from_partial b n (array_opened x) t = at_constant (specifying b n (array_opened x)) (λ c. go (specifying b n (array_sized x c))) t (λ c. (λ h l. tt, λ h. h))
from_partial b n (array_sized x c) t = either_way (specifying b n (array_sized x c)) (is kind.close_subscript t) _ none (λ h l. tt, λ h. h) tt
from_partial b n val_read t = at_name (specifying b n val_read) _ t (λ x. (λ h l. tt, λ h. h))
from_partial b n (val_named x) t = either_way (specifying b n (val_named x)) (is kind.equal t) _ none (λ h l. tt, λ h. h) tt
from_partial b n (val_equated x) t = at_constant (specifying b n (val_equated x)) (λ c. go (specifying b n (whole (val x c)))) t (λ c. (λ h l. tt, λ h. h))
from_partial b n (whole s) t = either_way (specifying b n (whole s)) (is kind.semicolon t) _ none (λ h l. tt, λ h. h) tt

pub to : (s : State) (t : Token) → To s (step s t)
to (at_front b n) t = from_front b n t
to (specifying b n x) t = from_partial b n x t
to (need_process c) t = from_process c t
to (brace_opened c) t =
    either_way (brace_opened c) (is kind.close_brace t) _ _ (λ h l. (h.0, (omega arith, omega arith)), λ h. ((h.0.0, omega arith), tt))
    (onto (brace_opened c) (need_process (in_braces (opened c))) (step_process t (in_braces (opened c))) (λ h. h, λ h. (h.0, tt)) (from_process (in_braces (opened c)) t))
to (target n c) t =
    either_way (target n c) (is kind.becomes t) _ _ (λ h l. h, λ h. (h.0, tt))
    (either_way (target n c) (is kind.open_subscript t) _ none (λ h l. h, λ h. (h.0, tt)) tt)
to (target_element n s c) t = either_way (target_element n s c) (is kind.becomes t) _ none (λ h l. h, λ h. (h.0, tt)) tt
to (have_process p c) t = to_process c p t
to (need_expression c) t = from_expression c t
to (need_operand c) t = from_operand c t
to (name_read n c) t =
    either_way (name_read n c) (is kind.open_subscript t) _ _ (λ h l. h.0, λ h. ((h.0, omega arith), h.1.0))
    (onto (name_read n c) (have_operand (variable n) c) (step_have_operand c (variable n) t) (by_name n c) (to_operand c (variable n) t))
to (have_operand a c) t = to_operand c a t
to (have_expression e c) t = to_expression c e t

-- ── and the program that is accepted is what was read ──
abbrev At : State → Reading → Type 0
At s (accepted p) = (Nests s → Low (nesting p)) × (Low (max (depth p) (deepest p)) → Shallow s)
At s (refused u) = Unit {0}

until : (s u : State) (r : Reading) → As s u → At u r → At s r
until s u (accepted p) h g = (λ x. g.0 (h.0 x), λ x. h.1 (g.1 x))
until s u (refused v) h g = tt

at_process : (c : ProcessContext) (p : Process) → At (have_process p c) (final_process c p)
at_process (top b) p = (λ h. omega arith, λ h. ((tt, (omega arith, omega (arith, nests_within p))), tt))
at_process (in_braces c) p = tt
at_process (in_then e c) p = tt
at_process (in_else e q c) p =
    until (have_process p (in_else e q c)) (have_process (conditional e q p) c) (final_process c (conditional e q p)) (branch e q p c) (at_process c (conditional e q p))
at_process (in_body e c) p = until (have_process p (in_body e c)) (have_process (while e p) c) (final_process c (while e p)) (body e p c) (at_process c (while e p))
at_process (in_comment c) p = until (have_process p (in_comment c)) (have_process (after_comment p) c) (final_process c (after_comment p)) (commented p c) (at_process c (after_comment p))

at_expression : (c : ExpressionContext) (e : Expression) → At (have_expression e c) (final_expression c e)
at_expression (in_assign n c) e = until (have_expression e (in_assign n c)) (have_process (assign n e) c) (final_process c (assign n e)) (assigned n e c) (at_process c (assign n e))
at_expression (in_target n c) e = tt
at_expression (in_assign_element n s c) e =
    until (have_expression e (in_assign_element n s c)) (have_process (assign_element n s e) c) (final_process c (assign_element n s e)) (assigned_element n s e c) (at_process c
    (assign_element n s e))
at_expression (in_if c) e = tt
at_expression (in_while c) e = tt
at_expression (in_brackets c) e = tt
at_expression (in_subscript n c) e = tt

at_operand : (c : OperandContext) (a : Operand) → At (have_operand a c) (final_operand c a)
at_operand (first c) a = until (have_operand a (first c)) (have_expression (single a) c) (final_expression c (single a)) (alone a c) (at_expression c (single a))
at_operand (under o c) a = until (have_operand a (under o c)) (have_expression (monadic o a) c) (final_expression c (monadic o a)) (negated o a c) (at_expression c (monadic o a))
at_operand (next o c) a =
    until (have_operand a (next o c)) (joined c o (last a)) (final_expression (chain_base c) (chain_built c o (last a))) (chained o a c) (at_expression (chain_base c) (chain_built c o
    (last a)))

at_end : (s : State) → At s (final s)
at_end (at_front b n) = tt
at_end (specifying b n x) = tt
at_end (need_process c) = tt
at_end (brace_opened c) = tt
at_end (target n c) = tt
at_end (target_element n s c) = tt
at_end (have_process p c) = at_process c p
at_end (need_expression c) = tt
at_end (need_operand c) = tt
at_end (name_read n c) = until (name_read n c) (have_operand (variable n) c) (final_operand c (variable n)) (by_name n c) (at_operand c (variable n))
at_end (have_operand a c) = at_operand c a
at_end (have_expression e c) = at_expression c e

-- ── a level, as it is counted ──
pub counts : (l : ℕ) → counted l ≡ min l depth_limit
counts zero = refl
counts (suc l) =
    by_test (λ (b : Bool). pick b (counted l + 1) depth_limit ≡ min (suc l) depth_limit) (ltb (counted l) depth_limit)
    (λ h. omega (arith, counts l, ltb-true (counted l) depth_limit h)) (λ h. omega (arith, counts l, ltb-false (counted l) depth_limit h))

pub counts_level : (s : State) → (configuration s).level ≡ counted (level s)
counts_level (at_front b n) = refl
counts_level (specifying b n x) = refl
counts_level (need_process c) = refl
counts_level (brace_opened c) = refl
counts_level (target n c) = refl
counts_level (target_element n s c) = refl
counts_level (have_process p c) = refl
counts_level (need_expression c) = refl
counts_level (need_operand c) = refl
counts_level (name_read n c) = refl
counts_level (have_operand a c) = refl
counts_level (have_expression e c) = refl

one_operand : (a : Operand) → 1 ≤ nesting_operand a
one_operand (constant v) = omega arith
one_operand (variable n) = omega arith
one_operand (element n e) = omega arith
one_operand (bracketed e) = omega arith

pub shallow_level : (s : State) → Shallow s → Low (suc (level s))
shallow_level (at_front b n) h = omega arith
shallow_level (specifying b n x) h = omega arith
shallow_level (need_process c) h = h.1
shallow_level (brace_opened c) h = h.0.1
shallow_level (target n c) h = h.0.1
shallow_level (target_element n s c) h = h.0.0.1
shallow_level (have_process p c) h = omega arith
shallow_level (need_expression c) h = h.1.1
shallow_level (need_operand c) h = h.1.1
shallow_level (name_read n c) h = h.0.1
shallow_level (have_operand a c) h = omega (arith, h.0.1, one_operand a)
shallow_level (have_expression e c) h = omega arith

-- ── where no level reached the limit the tree nests within it; where one did, it is too deep ──
abbrev pub Levels : Bool → State → Type 0
Levels false s = Nests s
Levels true s = Shallow s → ⊥

pub levels_first : Levels false (at_front [] 0)
levels_first = tt

module _ (s : State) (p : Program) (e : final s ≡ accepted p) where
  ends : At s (accepted p)
  ends = subst (At s) e (at_end s)

  pub levels_nest : Levels false s → nesting p ≤ depth_limit
  levels_nest = ends.0

  pub levels_deep : Levels true s → depth_limit < max (depth p) (deepest p)
  levels_deep h = by_test (λ (b : Bool). depth_limit < max (depth p) (deepest p)) (too_deep p) (λ q. ltb-true _ _ q) (λ q. absurd (h (ends.1 (ltb-false _ _ q))))
