-- The grammar's automaton without its trees: a pushdown automaton, whose stack has a frame for each part that a closing token must end. Definitions.
-- A level counts what the hole of a tree stands in, as depth does; the recognizer counts up to the limit of depth. Rests on the kinds of tokens and the automaton's states.
use Rattle.std.specs.Prelude.{Bool, true, false, List, [], ◌∷◌, ℕ, zero, suc, ◌+◌, ◌-◌, ◌*◌, eqb, ltb, length, get_or, Option, None, Some}
use Rattle.arm_word.specs.Choice.{pick}
use Rattle.x_spelling.specs.Kinds as kind
use Rattle.x_grammar.specs.Grammar.{is_monadic, is_diadic, is_associative}
use Rattle.x_grammar.specs.Automaton.{ProcessContext, top, in_braces, in_then, in_else, in_body, in_comment, ListContext, opened, also, ExpressionContext, in_assign, in_target, in_assign_element}
use Rattle.x_grammar.specs.Automaton.{in_if, in_while, in_brackets, in_subscript, OperandContext, first, under, next, ChainContext, after, link, Partial, var_read, array_read, array_named}
use Rattle.x_grammar.specs.Automaton.{array_opened, array_sized, val_read, val_named, val_equated, whole, State, at_front, specifying, need_process, brace_opened, target, target_element}
use Rattle.x_grammar.specs.Automaton.{have_process, need_expression, need_operand, name_read, have_operand, have_expression}
use Rattle.x_grammar.specs.TreeDepth.{depth_limit}
use Rattle.x_program.specs.Layout.{row_words}
use Rattle.front_recognizer.specs.Marks.{mark_of}
use Rattle.front_recognizer.specs.declared.mark.Mark.{Mark}
use Rattle.front_recognizer.specs.declared.mark.Mark.TheVariants as mark
use Rattle.front_recognizer.specs.declared.mode.Mode.{Mode}
use Rattle.front_recognizer.specs.declared.mode.Mode.TheVariants as mode
use Rattle.front_recognizer.specs.declared.Frame.{Frame}
use Rattle.front_recognizer.specs.declared.Action.{Action}

-- the operator before an operand: none, a monadic one, or a chain's, as 2 more than its kind
abbrev pub no_operator : ℕ
no_operator = 0

abbrev pub after_monadic : ℕ
after_monadic = 1

abbrev pub in_chain : ℕ → ℕ
in_chain o = o + 2

abbrev pub chain_operator : ℕ → ℕ
chain_operator o = o - 2

-- a frame: its mark, the operator before what is open, and the level outside
abbrev pub frame : Mark → ℕ → ℕ → Frame
frame m o l = record { mark = m; operator = o; level = l }

abbrev pub no_frame : Frame
no_frame = frame mark.Nothing no_operator 0

-- the automaton's control, by its mode, and its stack
pub record Configuration : Type 0 where
  pub mode : Mode
  pub operator : ℕ
  pub level : ℕ
  pub stack : List Frame

abbrev pub at : Mode → ℕ → ℕ → List Frame → Configuration
at m o l s = record { mode = m; operator = o; level = l; stack = s }

-- one level more
abbrev pub deeper : ℕ → ℕ
deeper l = pick (ltb l depth_limit) (l + 1) depth_limit

-- a level as far as it is counted
abbrev pub counted : ℕ → ℕ
counted zero = 0
counted (suc l) = deeper (counted l)

-- ── the automaton's states, as configurations ──
abbrev mutual
  pub level_process : ProcessContext → ℕ
  level_process (top b) = 0
  level_process (in_braces k) = level_list k
  level_process (in_then e k) = suc (level_process k)
  level_process (in_else e p k) = suc (level_process k)
  level_process (in_body e k) = suc (level_process k)
  level_process (in_comment k) = level_process k

  pub level_list : ListContext → ℕ
  level_list (opened k) = suc (level_process k)
  level_list (also p k) = level_list k

abbrev mutual
  pub level_expression : ExpressionContext → ℕ
  level_expression (in_assign n k) = 0
  level_expression (in_target n k) = 1
  level_expression (in_assign_element n e k) = 0
  level_expression (in_if k) = 0
  level_expression (in_while k) = 0
  level_expression (in_brackets k) = suc (level_operand k)
  level_expression (in_subscript n k) = suc (level_operand k)

  pub level_operand : OperandContext → ℕ
  level_operand (first k) = level_expression k
  level_operand (under o k) = suc (level_expression k)
  level_operand (next o k) = level_chain k

  pub level_chain : ChainContext → ℕ
  level_chain (after a k) = suc (level_expression k)
  level_chain (link a k) = suc (level_chain k)

abbrev pub operator_before : OperandContext → ℕ
operator_before (first k) = no_operator
operator_before (under o k) = after_monadic
operator_before (next o k) = in_chain o

abbrev mutual
  pub frames_process : ProcessContext → List Frame
  frames_process (top b) = []
  frames_process (in_braces k) = frames_list k
  frames_process (in_then e k) = frame mark.Then 0 (counted (level_process k)) ∷ frames_process k
  frames_process (in_else e p k) = frames_process k
  frames_process (in_body e k) = frames_process k
  frames_process (in_comment k) = frames_process k

  pub frames_list : ListContext → List Frame
  frames_list (opened k) = frame mark.Braces 0 (counted (level_process k)) ∷ frames_process k
  frames_list (also p k) = frames_list k

abbrev mutual
  pub frames_expression : ExpressionContext → List Frame
  frames_expression (in_assign n k) = frames_process k
  frames_expression (in_target n k) = frame mark.Target 0 (counted (level_process k)) ∷ frames_process k
  frames_expression (in_assign_element n e k) = frames_process k
  frames_expression (in_if k) = frame mark.If 0 (counted (level_process k)) ∷ frames_process k
  frames_expression (in_while k) = frame mark.While 0 (counted (level_process k)) ∷ frames_process k
  frames_expression (in_brackets k) = frame mark.Brackets (operator_before k) (counted (level_operand k)) ∷ frames_operand k
  frames_expression (in_subscript n k) = frame mark.Subscript (operator_before k) (counted (level_operand k)) ∷ frames_operand k

  pub frames_operand : OperandContext → List Frame
  frames_operand (first k) = frames_expression k
  frames_operand (under o k) = frames_expression k
  frames_operand (next o k) = frames_chain k

  pub frames_chain : ChainContext → List Frame
  frames_chain (after a k) = frames_expression k
  frames_chain (link a k) = frames_chain k

abbrev pub mode_partial : Partial → Mode
mode_partial var_read = mode.VarRead
mode_partial array_read = mode.ArrayRead
mode_partial (array_named x) = mode.ArrayNamed
mode_partial (array_opened x) = mode.ArrayOpened
mode_partial (array_sized x c) = mode.ArraySized
mode_partial val_read = mode.ValRead
mode_partial (val_named x) = mode.ValNamed
mode_partial (val_equated x) = mode.ValEquated
mode_partial (whole s) = mode.Specified

abbrev pub configuration : State → Configuration
configuration (at_front b n) = at mode.Front 0 0 []
configuration (specifying b n x) = at (mode_partial x) 0 0 []
configuration (need_process k) = at mode.NeedProcess 0 (counted (level_process k)) (frames_process k)
configuration (brace_opened k) = at mode.BraceOpened 0 (counted (level_process k)) (frame mark.Braces 0 (counted (level_process k)) ∷ frames_process k)
configuration (target n k) = at mode.Target 0 (counted (level_process k)) (frames_process k)
configuration (target_element n e k) = at mode.TargetElement 0 (counted (level_process k)) (frames_process k)
configuration (have_process p k) = at mode.HaveProcess 0 0 (frames_process k)
configuration (need_expression k) = at mode.NeedExpression 0 (counted (level_expression k)) (frames_expression k)
configuration (need_operand k) = at mode.NeedOperand (operator_before k) (counted (level_operand k)) (frames_operand k)
configuration (name_read n k) = at mode.NameRead (operator_before k) (counted (level_operand k)) (frames_operand k)
configuration (have_operand a k) = at mode.HaveOperand (operator_before k) (counted (level_operand k)) (frames_operand k)
configuration (have_expression e k) = at mode.HaveOperand after_monadic 0 (frames_expression k)

-- ── what a token does ──
abbrev pub stay : Mode → ℕ → ℕ → Action
stay m o l = record { mode = m; operator = o; level = l; pops = false; pushed = None }

abbrev pub leave : Mode → ℕ → ℕ → Action
leave m o l = record { mode = m; operator = o; level = l; pops = true; pushed = None }

abbrev pub enter : Mode → ℕ → Mark → ℕ → ℕ → Action
enter m l b o below = record { mode = m; operator = 0; level = l; pops = false; pushed = Some (frame b o below) }

-- a condition of an if ends: its frame becomes that of the then part
abbrev pub choose : ℕ → Action
choose l = record { mode = mode.NeedProcess; operator = 0; level = deeper l; pops = true; pushed = Some (frame mark.Then 0 l) }

abbrev pub refuse : Action
refuse = stay mode.Refused 0 0

abbrev pub expect : ℕ → ℕ → Action → Action
expect k want a = pick (eqb k want) a refuse

-- after a whole process the innermost frame decides
abbrev pub after_process_in : Mark → ℕ → ℕ → Action
after_process_in mark.Then l k = expect k kind.else (leave mode.NeedProcess 0 (deeper l))
after_process_in mark.Braces l k = pick (eqb k kind.semicolon) (stay mode.NeedProcess 0 (deeper l)) (expect k kind.close_brace (leave mode.HaveProcess 0 0))
after_process_in m l k = refuse

abbrev pub after_process : Frame → ℕ → Action
after_process f k = after_process_in f.mark f.level k

-- after a whole expression; one in no frame of its own was assigned
abbrev pub after_expression_in : Mark → Frame → ℕ → Action
after_expression_in mark.Target f k = expect k kind.close_subscript (leave mode.TargetElement 0 f.level)
after_expression_in mark.If f k = expect k kind.then (choose f.level)
after_expression_in mark.While f k = expect k kind.do_word (leave mode.NeedProcess 0 (deeper f.level))
after_expression_in mark.Brackets f k = expect k kind.close_bracket (leave mode.HaveOperand f.operator f.level)
after_expression_in mark.Subscript f k = expect k kind.close_subscript (leave mode.HaveOperand f.operator f.level)
after_expression_in m f k = after_process f k

abbrev pub after_expression : Frame → ℕ → Action
after_expression f k = after_expression_in f.mark f k

-- the chain that o stands for goes on with k
abbrev pub links : ℕ → ℕ → Bool
links o k = pick (is_associative (chain_operator o)) (eqb k (chain_operator o)) false

-- after a whole operand
abbrev pub after_operand : ℕ → ℕ → Frame → ℕ → Action
after_operand o l f k =
    pick (eqb o no_operator) (pick (is_diadic k) (stay mode.NeedOperand (in_chain k) (deeper l)) (after_expression f k))
    (pick (links o k) (stay mode.NeedOperand o (deeper l)) (after_expression f k))

abbrev pub start_operand : ℕ → ℕ → ℕ → Action
start_operand o l k =
    pick (eqb k kind.number) (stay mode.HaveOperand o l)
    (pick (eqb k kind.name) (stay mode.NameRead o l) (expect k kind.open_bracket (enter mode.NeedExpression (deeper l) mark.Brackets o l)))

abbrev pub start_expression : ℕ → ℕ → Action
start_expression l k = pick (is_monadic k) (stay mode.NeedOperand after_monadic (deeper l)) (start_operand no_operator l k)

abbrev pub start_process : ℕ → ℕ → Action
start_process l k =
    pick (eqb k kind.name) (stay mode.Target 0 l)
    (pick (eqb k kind.skip) (stay mode.HaveProcess 0 0)
    (pick (eqb k kind.stop) (stay mode.HaveProcess 0 0)
    (pick (eqb k kind.open_brace) (enter mode.BraceOpened l mark.Braces 0 l)
    (pick (eqb k kind.if) (enter mode.NeedExpression 0 mark.If 0 l) (pick (eqb k kind.while) (enter mode.NeedExpression 0 mark.While 0 l) (expect k kind.comment (stay mode.NeedProcess 0 l)))))))

-- within a specification
abbrev pub expect_constant : ℕ → Mode → Action
expect_constant k m = pick (eqb k kind.number) (stay m 0 0) (expect k kind.name (stay m 0 0))

abbrev pub start_program : ℕ → Action
start_program k =
    pick (eqb k kind.comment) (stay mode.Front 0 0)
    (pick (eqb k kind.var) (stay mode.VarRead 0 0)
    (pick (eqb k kind.array) (stay mode.ArrayRead 0 0) (pick (eqb k kind.val) (stay mode.ValRead 0 0) (start_process 0 k))))

-- after the name that a process assigns to
abbrev pub after_target : ℕ → ℕ → Action
after_target l k = pick (eqb k kind.becomes) (stay mode.NeedExpression 0 0) (expect k kind.open_subscript (enter mode.NeedExpression 1 mark.Target 0 l))

-- after an opening brace
abbrev pub after_brace : ℕ → ℕ → Action
after_brace l k = pick (eqb k kind.close_brace) (leave mode.HaveProcess 0 0) (start_process (deeper l) k)

-- after a name that is an operand, or the name of an element
abbrev pub after_name : ℕ → ℕ → Frame → ℕ → Action
after_name o l f k = pick (eqb k kind.open_subscript) (enter mode.NeedExpression (deeper l) mark.Subscript o l) (after_operand o l f k)

-- what a token of kind k does, by the mode; f is the innermost frame
abbrev pub decide : Mode → ℕ → ℕ → Frame → ℕ → Action
decide mode.Front o l f k = start_program k
decide mode.VarRead o l f k = expect k kind.name (stay mode.Specified 0 0)
decide mode.ArrayRead o l f k = expect k kind.name (stay mode.ArrayNamed 0 0)
decide mode.ArrayNamed o l f k = expect k kind.open_subscript (stay mode.ArrayOpened 0 0)
decide mode.ArrayOpened o l f k = expect_constant k mode.ArraySized
decide mode.ArraySized o l f k = expect k kind.close_subscript (stay mode.Specified 0 0)
decide mode.ValRead o l f k = expect k kind.name (stay mode.ValNamed 0 0)
decide mode.ValNamed o l f k = expect k kind.equal (stay mode.ValEquated 0 0)
decide mode.ValEquated o l f k = expect_constant k mode.Specified
decide mode.Specified o l f k = expect k kind.semicolon (stay mode.Front 0 0)
decide mode.NeedProcess o l f k = start_process l k
decide mode.BraceOpened o l f k = after_brace l k
decide mode.Target o l f k = after_target l k
decide mode.TargetElement o l f k = expect k kind.becomes (stay mode.NeedExpression 0 0)
decide mode.HaveProcess o l f k = after_process f k
decide mode.NeedExpression o l f k = start_expression l k
decide mode.NeedOperand o l f k = start_operand o l k
decide mode.NameRead o l f k = after_name o l f k
decide mode.HaveOperand o l f k = after_operand o l f k
decide mode.Refused o l f k = after_operand o l f k

-- ── the stack ──
abbrev pub innermost : List Frame → Frame
innermost [] = no_frame
innermost (f ∷ s) = f

abbrev pub pop : Bool → List Frame → List Frame
pop false s = s
pop true [] = []
pop true (f ∷ s) = s

abbrev pub push : Option Frame → List Frame → List Frame
push None s = s
push (Some f) s = f ∷ s

abbrev pub act : Action → List Frame → Configuration
act a s = at a.mode a.operator a.level (push a.pushed (pop a.pops s))

-- what a token of kind k does in a configuration
abbrev pub doing : Configuration → ℕ → Action
doing c k = decide c.mode c.operator c.level (innermost c.stack) k

-- the configuration after it
abbrev pub advance : Configuration → ℕ → Configuration
advance c k = act (doing c k) c.stack

-- a program ends here: after a whole process, or an operand of an expression that is assigned, with nothing open
abbrev pub ends_in : Mode → Bool
ends_in mode.HaveProcess = true
ends_in mode.NameRead = true
ends_in mode.HaveOperand = true
ends_in mode.Refused = true
ends_in m = false

abbrev pub ends_at : Mode → ℕ → Bool
ends_at m h = pick (eqb h 0) (ends_in m) false

abbrev pub complete : Configuration → Bool
complete c = ends_at c.mode (length c.stack)

-- the limit was reached
abbrev pub deep_by : Bool → ℕ → Bool
deep_by deep l = pick (eqb l depth_limit) true deep

-- the first h rows of a table, as frames, the last one innermost
unfoldable pub frames : List ℕ → ℕ → List Frame
frames t zero = []
frames t (suc h) = frame (mark_of (get_or t (row_words * h) 0)) (get_or t (row_words * h + 1) 0) (get_or t (row_words * h + 2) 0) ∷ frames t h

abbrev pub popped : ℕ → Bool → ℕ
popped h b = pick b (h - 1) h
