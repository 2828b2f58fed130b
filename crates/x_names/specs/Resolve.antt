-- The resolved program: names replaced by what they stand for. Definitions; rests on the scope.
use Rattle.std.specs.Prelude.{List, [], ◌∷◌, ℕ, ◌-◌, eqb}
use Rattle.arm_word.specs.Choice.{pick}
use Rattle.x_spelling.specs.Kinds as kind
use Rattle.x_grammar.specs.Grammar.{Specification, val, commented, Expression, single, monadic, diadic, Chain, last, more, Operand, element, bracketed, Process, skip, stop, assign, assign_element}
use Rattle.x_grammar.specs.Grammar.{empty, braces, conditional, while, after_comment, Processes, only, followed, Program, program}
use Rattle.x_grammar.specs.Grammar as grammar
use Rattle.x_program.specs.Tree as tree
use Rattle.x_program.specs.Table.{diadic_of}
use Rattle.x_names.specs.Scope.{Meaning, unknown, variable, array, constant, Scope, empty_scope, meaning_of, constant_word, declare, declare_all}

-- an operator's kind as its number in the syntax table
abbrev pub monadic_operator : ℕ → tree.Monadic
monadic_operator o = pick (eqb o kind.minus) tree.negate tree.invert

abbrev pub diadic_operator : ℕ → tree.Diadic
diadic_operator o = diadic_of (o - kind.operator_base)

-- a name as an operand: a val's use is its constant; what was refused stands for 0
abbrev pub value : Meaning → tree.Expression
value unknown = tree.constant 0
value (variable v) = tree.variable v
value (array a) = tree.constant 0
value (constant w) = tree.constant w

abbrev pub element_of : Meaning → tree.Expression → tree.Expression
element_of unknown e = tree.constant 0
element_of (variable v) e = tree.constant 0
element_of (array a) e = tree.element a e
element_of (constant w) e = tree.constant 0

abbrev pub assigned : Meaning → tree.Expression → tree.Process
assigned unknown e = tree.skip
assigned (variable v) e = tree.assign v e
assigned (array a) e = tree.skip
assigned (constant w) e = tree.skip

abbrev pub element_assigned : Meaning → tree.Expression → tree.Expression → tree.Process
element_assigned unknown i e = tree.skip
element_assigned (variable v) i e = tree.skip
element_assigned (array a) i e = tree.assign_element a i e
element_assigned (constant w) i e = tree.skip

module _ (text : ℕ → List ℕ) where
  -- "a chain counted as grouped", to the right
  abbrev mutual
    pub expression : Expression → Scope → tree.Expression
    expression (single a) s = operand a s
    expression (monadic o a) s = tree.monadic (monadic_operator o) (operand a s)
    expression (diadic o a c) s = tree.diadic (diadic_operator o) (operand a s) (chain c o s)

    pub chain : Chain → ℕ → Scope → tree.Expression
    chain (last a) o s = operand a s
    chain (more a c) o s = tree.diadic (diadic_operator o) (operand a s) (chain c o s)

    pub operand : Operand → Scope → tree.Expression
    operand (grammar.constant w) s = tree.constant w
    operand (grammar.variable n) s = value (meaning_of text s n)
    operand (element n e) s = element_of (meaning_of text s n) (expression e s)
    operand (bracketed e) s = tree.bracket (expression e s)

  -- comments take no part
  abbrev mutual
    pub process : Process → Scope → tree.Process
    process skip s = tree.skip
    process stop s = tree.stop
    process (assign n e) s = assigned (meaning_of text s n) (expression e s)
    process (assign_element n i e) s = element_assigned (meaning_of text s n) (expression i s) (expression e s)
    process empty s = tree.braces tree.none
    process (braces ps) s = tree.braces (processes ps s)
    process (conditional e p q) s = tree.conditional (expression e s) (process p s) (process q s)
    process (while e p) s = tree.loop (expression e s) (process p s)
    process (after_comment p) s = process p s

    pub processes : Processes → Scope → tree.Processes
    processes (only p) s = tree.also (process p s) tree.none
    processes (followed p ps) s = tree.also (process p s) (processes ps s)

  -- what a specification declares in data, in front of what the later ones do
  abbrev pub declared : Specification → Scope → List tree.Declaration → List tree.Declaration
  declared (grammar.var n) s ds = tree.var ∷ ds
  declared (grammar.array n c) s ds = tree.array (constant_word text s c) ∷ ds
  declared (val n c) s ds = ds
  declared (commented d) s ds = declared d s ds

  abbrev pub declarations : List Specification → Scope → List tree.Declaration
  declarations [] s = []
  declarations (d ∷ ds) s = declared d s (declarations ds (declare text d s))

  abbrev pub resolve : Program → tree.Program
  resolve (program ds p) = record { declarations = declarations ds empty_scope; body = process p (declare_all text ds empty_scope) }
