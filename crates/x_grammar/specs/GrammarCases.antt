-- Document 01's cases on grammar, rows and depth, and others near them, worked out by the definitions.
-- Tokens are written by kind; names and numbers by their token's number and word.
use Rattle.std.specs.Prelude.{◌≡◌, refl, true, false, List, [], ◌∷◌, ℕ, zero, suc}
use Rattle.x_spelling.specs.Kinds as kind
use Rattle.x_grammar.specs.Grammar.{Token, number, name, mark, single, diadic, Chain, last, more, Operand, constant, bracketed, Process, skip, stop, assign, assign_element, empty, braces}
use Rattle.x_grammar.specs.Grammar.{only, followed, var, program}
use Rattle.x_grammar.specs.Automaton.{accepted, refused, run, reads}
use Rattle.x_grammar.specs.TreeDepth.{depth, deepest, too_deep}
use Rattle.x_grammar.specs.Nesting.{nesting}
use Rattle.x_grammar.specs.RawRows.{rows, rows_process, rows_expression, count_process, count_expression}

-- `var x; x := 2 + 3`: 8 tokens
sum : List Token
sum = mark kind.var ∷ name 1 ∷ mark kind.semicolon ∷ name 3 ∷ mark kind.becomes ∷ number 2 ∷ mark kind.plus ∷ number 3 ∷ []

sum_reads : reads sum ≡ accepted (program (var 1 ∷ []) (assign 3 (diadic kind.plus (constant 2) (last (constant 3)))))
unfolding sum reads run
sum_reads = refl

-- its rows after the declared one: (3,2,0,0) (3,3,0,0) (7,1,1,2) (10,x,3,0)
sum_rows : rows (program (var 1 ∷ []) (assign 3 (diadic kind.plus (constant 2) (last (constant 3))))) ≡ 3 ∷ 2 ∷ 0 ∷ 0 ∷ 3 ∷ 3 ∷ 0 ∷ 0 ∷ 7 ∷ 1 ∷ 1 ∷ 2 ∷ 10 ∷ 3 ∷ 3 ∷ 0 ∷ []
unfolding rows_process rows_expression count_process count_expression
sum_rows = refl

-- `{ skip; stop; { } }`: grouped to the right, all parts first
sequence_rows : rows (program [] (braces (followed skip (followed stop (only empty))))) ≡ 8 ∷ 0 ∷ 0 ∷ 0 ∷ 9 ∷ 0 ∷ 0 ∷ 0 ∷ 8 ∷ 0 ∷ 0 ∷ 0 ∷ 12 ∷ 1 ∷ 2 ∷ 0 ∷ 12 ∷ 0 ∷ 3 ∷ 0 ∷ []
unfolding rows_process count_process
sequence_rows = refl

-- the empty source; `{skip;}` at its `}`; `|c|` alone, and `skip |c|` at the comment
empty_source : reads [] ≡ refused []
unfolding reads run
empty_source = refl

brace_after_semicolon : reads (mark kind.open_brace ∷ mark kind.skip ∷ mark kind.semicolon ∷ mark kind.close_brace ∷ []) ≡ refused (mark kind.close_brace ∷ [])
unfolding reads run
brace_after_semicolon = refl

comment_alone : reads (mark kind.comment ∷ []) ≡ refused []
unfolding reads run
comment_alone = refl

comment_last : reads (mark kind.skip ∷ mark kind.comment ∷ []) ≡ refused (mark kind.comment ∷ [])
unfolding reads run
comment_last = refl

-- `x := a - b - c` at the second `-`; `x := a + -b` at `-`; `x := -a + a` at `+`
minus_chain : reads (name 0 ∷ mark kind.becomes ∷ name 2 ∷ mark kind.minus ∷ name 4 ∷ mark kind.minus ∷ name 6 ∷ []) ≡ refused (mark kind.minus ∷ name 6 ∷ [])
unfolding reads run
minus_chain = refl

monadic_inside : reads (name 0 ∷ mark kind.becomes ∷ name 2 ∷ mark kind.plus ∷ mark kind.minus ∷ name 5 ∷ []) ≡ refused (mark kind.minus ∷ name 5 ∷ [])
unfolding reads run
monadic_inside = refl

monadic_chain : reads (name 0 ∷ mark kind.becomes ∷ mark kind.minus ∷ name 3 ∷ mark kind.plus ∷ name 5 ∷ []) ≡ refused (mark kind.plus ∷ name 5 ∷ [])
unfolding reads run
monadic_chain = refl

-- `{ }` has depth 1 and `{skip}` 2; `a[0] := 1` has N 2
empty_depth : depth (program [] empty) ≡ 1
empty_depth = refl

braces_depth : depth (program [] (braces (only skip))) ≡ 2
braces_depth = refl

element_depth : deepest (program [] (assign_element 0 (single (constant 0)) (single (constant 1)))) ≡ 2
element_depth = refl

-- a chain of n + 1 ones
ones : ℕ → Chain
ones zero = last (constant 1)
ones (suc n) = more (constant 1) (ones n)

-- 32 operands fit, 33 are too deep
chain_fits : too_deep (program [] (assign 0 (diadic kind.plus (constant 1) (ones 30)))) ≡ false
unfolding ones
chain_fits = refl

chain_too_deep : too_deep (program [] (assign 0 (diadic kind.plus (constant 1) (ones 31)))) ≡ true
unfolding ones
chain_too_deep = refl

-- n brackets around a one, and n braces around skip
in_brackets : ℕ → Operand
in_brackets zero = constant 1
in_brackets (suc n) = bracketed (single (in_brackets n))

in_braces : ℕ → Process
in_braces zero = skip
in_braces (suc n) = braces (only (in_braces n))

-- 31 brackets are deeper as an operand of `+`, and nest deeper only after it
left_depth : deepest (program [] (assign 0 (diadic kind.plus (in_brackets 31) (last (constant 1))))) ≡ 33
unfolding in_brackets
left_depth = refl

left_nesting : nesting (program [] (assign 0 (diadic kind.plus (in_brackets 31) (last (constant 1))))) ≡ 32
unfolding in_brackets
left_nesting = refl

right_nesting : nesting (program [] (assign 0 (diadic kind.plus (constant 1) (last (in_brackets 31))))) ≡ 33
unfolding in_brackets
right_nesting = refl

-- skip counts in depth and nests nothing
braces_too_deep : depth (program [] (in_braces 32)) ≡ 33
unfolding in_braces
braces_too_deep = refl

braces_nesting : nesting (program [] (in_braces 32)) ≡ 32
unfolding in_braces
braces_nesting = refl
