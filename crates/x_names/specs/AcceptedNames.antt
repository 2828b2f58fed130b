-- The constants of a program are words. Definitions.
use Rattle.std.specs.Prelude.{◌<◌}
use mathlib.Core.List.{List, [], ◌∷◌}
use Rattle.x_grammar.specs.Grammar.{Token, number, name, mark, Constant, literal, named, Specification, val, commented, Expression, single, monadic, diadic, Chain, last, more, Operand, element}
use Rattle.x_grammar.specs.Grammar.{bracketed, Process, skip, stop, assign, assign_element, empty, braces, conditional, while, after_comment, Processes, only, followed, Program, program}
use Rattle.x_grammar.specs.Grammar.{text_expression, text_chain, text_operand, text_process, text_processes, text_constant, text_specification, text_specifications, text_program}
use Rattle.x_grammar.specs.Grammar as grammar

-- ── constants are words ──

-- every constant among the tokens is a word
abbrev pub Words : List Token → Type 0
Words [] = Unit {0}
Words (number v ∷ ts) = (v < 4294967296) × Words ts
Words (name n ∷ ts) = Words ts
Words (mark k ∷ ts) = Words ts

abbrev mutual
  pub WordsE : Expression → Type 0
  WordsE (single a) = WordsO a
  WordsE (monadic o a) = WordsO a
  WordsE (diadic o a c) = WordsO a × WordsC c

  pub WordsC : Chain → Type 0
  WordsC (last a) = WordsO a
  WordsC (more a c) = WordsO a × WordsC c

  pub WordsO : Operand → Type 0
  WordsO (grammar.constant v) = v < 4294967296
  WordsO (grammar.variable n) = Unit {0}
  WordsO (element n e) = WordsE e
  WordsO (bracketed e) = WordsE e

abbrev mutual
  pub WordsP : Process → Type 0
  WordsP skip = Unit {0}
  WordsP stop = Unit {0}
  WordsP (assign n e) = WordsE e
  WordsP (assign_element n i e) = WordsE i × WordsE e
  WordsP empty = Unit {0}
  WordsP (braces ps) = WordsL ps
  WordsP (conditional e p q) = WordsE e × WordsP p × WordsP q
  WordsP (while e p) = WordsE e × WordsP p
  WordsP (after_comment p) = WordsP p

  pub WordsL : Processes → Type 0
  WordsL (only p) = WordsP p
  WordsL (followed p ps) = WordsP p × WordsL ps

abbrev pub WordsK : Constant → Type 0
WordsK (literal v) = v < 4294967296
WordsK (named n) = Unit {0}

abbrev pub WordsS : Specification → Type 0
WordsS (grammar.var n) = Unit {0}
WordsS (grammar.array n c) = WordsK c
WordsS (val n c) = WordsK c
WordsS (commented d) = WordsS d

abbrev pub WordsSs : List Specification → Type 0
WordsSs [] = Unit {0}
WordsSs (d ∷ ds) = WordsS d × WordsSs ds
