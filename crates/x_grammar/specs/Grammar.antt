-- The grammar: trees, the text of a tree, and which trees are well formed. Definitions.
-- A list of tokens is a program exactly if it is the text of a well formed tree. Rests on the kinds of tokens.
use Rattle.std.specs.Prelude.{◌≡◌, Bool, true, false, List, [], ◌∷◌, ℕ, eqb, leb}
use Rattle.arm_word.specs.Choice.{pick}
use Rattle.x_spelling.specs.Kinds as kind

-- a token as the grammar sees it: a constant with its word, a name with the number of its token, a mark with its kind
pub data Token : Type 0 where
  number : ℕ → Token
  name : ℕ → Token
  mark : ℕ → Token

-- "An expression reads operands and an operand may hold an expression in brackets."
mutual
  -- "Expression: an operand; `-` or `not` and an operand; operands joined by one operator."
  pub data Expression : Type 0 where
    single : Operand → Expression
    monadic : ℕ → Operand → Expression
    diadic : ℕ → Operand → Chain → Expression

  -- the operands after the first one
  pub data Chain : Type 0 where
    last : Operand → Chain
    more : Operand → Chain → Chain

  -- "Operand: constant, name, `n [ e ]`, `( e )`."
  pub data Operand : Type 0 where
    constant : ℕ → Operand
    variable : ℕ → Operand
    element : ℕ → Expression → Operand
    bracketed : Expression → Operand

-- "Process: `skip`; `stop`; `n := e`; `n [ e ] := e`; `{ }` around processes separated by `;`, none allowed; `if e then p else p`; `while e do p`."
-- A comment "stands only directly before a specification, a process or another comment": a process may be one after a comment.
mutual
  pub data Process : Type 0 where
    skip : Process
    stop : Process
    assign : ℕ → Expression → Process
    assign_element : ℕ → Expression → Expression → Process
    empty : Process
    braces : Processes → Process
    conditional : Expression → Process → Process → Process
    while : Expression → Process → Process
    after_comment : Process → Process

  pub data Processes : Type 0 where
    only : Process → Processes
    followed : Process → Processes → Processes

-- "c is a number, byte, true, false or an earlier val name"
pub data Constant : Type 0 where
  literal : ℕ → Constant
  named : ℕ → Constant

-- "Specification: `var n`, `array n [ c ]`, `val n = c`"; or one after a comment
pub data Specification : Type 0 where
  var : ℕ → Specification
  array : ℕ → Constant → Specification
  val : ℕ → Constant → Specification
  commented : Specification → Specification

-- "Program: specifications, each followed by `;`, then one process."
pub data Program : Type 0 where
  program : List Specification → Process → Program

-- the text of a tree, followed by w
abbrev mutual
  pub text_expression : Expression → List Token → List Token
  text_expression (single a) w = text_operand a w
  text_expression (monadic o a) w = mark o ∷ text_operand a w
  text_expression (diadic o a c) w = text_operand a (mark o ∷ text_chain c o w)

  pub text_chain : Chain → ℕ → List Token → List Token
  text_chain (last a) o w = text_operand a w
  text_chain (more a c) o w = text_operand a (mark o ∷ text_chain c o w)

  pub text_operand : Operand → List Token → List Token
  text_operand (constant v) w = number v ∷ w
  text_operand (variable n) w = name n ∷ w
  text_operand (element n e) w = name n ∷ mark kind.open_subscript ∷ text_expression e (mark kind.close_subscript ∷ w)
  text_operand (bracketed e) w = mark kind.open_bracket ∷ text_expression e (mark kind.close_bracket ∷ w)

abbrev mutual
  pub text_process : Process → List Token → List Token
  text_process skip w = mark kind.skip ∷ w
  text_process stop w = mark kind.stop ∷ w
  text_process (assign n e) w = name n ∷ mark kind.becomes ∷ text_expression e w
  text_process (assign_element n s e) w = name n ∷ mark kind.open_subscript ∷ text_expression s (mark kind.close_subscript ∷ mark kind.becomes ∷ text_expression e w)
  text_process empty w = mark kind.open_brace ∷ mark kind.close_brace ∷ w
  text_process (braces ps) w = mark kind.open_brace ∷ text_processes ps (mark kind.close_brace ∷ w)
  text_process (conditional e p q) w = mark kind.if ∷ text_expression e (mark kind.then ∷ text_process p (mark kind.else ∷ text_process q w))
  text_process (while e p) w = mark kind.while ∷ text_expression e (mark kind.do_word ∷ text_process p w)
  text_process (after_comment p) w = mark kind.comment ∷ text_process p w

  pub text_processes : Processes → List Token → List Token
  text_processes (only p) w = text_process p w
  text_processes (followed p ps) w = text_process p (mark kind.semicolon ∷ text_processes ps w)

abbrev pub text_constant : Constant → List Token → List Token
text_constant (literal v) w = number v ∷ w
text_constant (named n) w = name n ∷ w

abbrev pub text_specification : Specification → List Token → List Token
text_specification (var n) w = mark kind.var ∷ name n ∷ w
text_specification (array n c) w = mark kind.array ∷ name n ∷ mark kind.open_subscript ∷ text_constant c (mark kind.close_subscript ∷ w)
text_specification (val n c) w = mark kind.val ∷ name n ∷ mark kind.equal ∷ text_constant c w
text_specification (commented s) w = mark kind.comment ∷ text_specification s w

abbrev pub text_specifications : List Specification → List Token → List Token
text_specifications [] w = w
text_specifications (s ∷ ss) w = text_specification s (mark kind.semicolon ∷ text_specifications ss w)

abbrev pub text_program : Program → List Token
text_program (program ss p) = text_specifications ss (text_process p [])

-- "`-` or `not` and an operand"
abbrev pub is_monadic : ℕ → Bool
is_monadic o = pick (eqb o kind.minus) true (eqb o kind.not)

-- the operators that join operands
abbrev pub is_diadic : ℕ → Bool
is_diadic o = pick (leb kind.plus o) (leb o kind.at_least) false

-- "More than two operands only for `+ * and or xor`": times, and, or and xor are neighbours
abbrev pub is_associative : ℕ → Bool
is_associative o = pick (eqb o kind.plus) true (pick (leb kind.times o) (leb o kind.xor) false)

-- well formed: the operators are such operators; "the same operator throughout" is the chain's text
abbrev mutual
  pub WellFormedExpression : Expression → Type 0
  WellFormedExpression (single a) = WellFormedOperand a
  WellFormedExpression (monadic o a) = (is_monadic o ≡ true) × WellFormedOperand a
  WellFormedExpression (diadic o a c) = (is_diadic o ≡ true) × WellFormedOperand a × WellFormedChain c o

  pub WellFormedChain : Chain → ℕ → Type 0
  WellFormedChain (last a) o = WellFormedOperand a
  WellFormedChain (more a c) o = (is_associative o ≡ true) × WellFormedOperand a × WellFormedChain c o

  pub WellFormedOperand : Operand → Type 0
  WellFormedOperand (constant v) = Unit {0}
  WellFormedOperand (variable n) = Unit {0}
  WellFormedOperand (element n e) = WellFormedExpression e
  WellFormedOperand (bracketed e) = WellFormedExpression e

abbrev mutual
  pub WellFormedProcess : Process → Type 0
  WellFormedProcess skip = Unit {0}
  WellFormedProcess stop = Unit {0}
  WellFormedProcess (assign n e) = WellFormedExpression e
  WellFormedProcess (assign_element n s e) = WellFormedExpression s × WellFormedExpression e
  WellFormedProcess empty = Unit {0}
  WellFormedProcess (braces ps) = WellFormedProcesses ps
  WellFormedProcess (conditional e p q) = WellFormedExpression e × WellFormedProcess p × WellFormedProcess q
  WellFormedProcess (while e p) = WellFormedExpression e × WellFormedProcess p
  WellFormedProcess (after_comment p) = WellFormedProcess p

  pub WellFormedProcesses : Processes → Type 0
  WellFormedProcesses (only p) = WellFormedProcess p
  WellFormedProcesses (followed p ps) = WellFormedProcess p × WellFormedProcesses ps

-- every specification is well formed
abbrev pub WellFormed : Program → Type 0
WellFormed (program ss p) = WellFormedProcess p

-- a list of tokens that is a program
unfoldable pub IsProgram : List Token → Type 0
IsProgram ts = (p : Program) × WellFormed p × (ts ≡ text_program p)
