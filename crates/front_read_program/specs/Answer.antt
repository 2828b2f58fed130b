-- What the reader of a program answers, from the automaton's reading of its tokens. Definitions.
use Rattle.std.specs.Prelude.{◌≡◌, List, [], ℕ, ◌-◌, ◌*◌, length, Result, Ok, Err}
use Rattle.std.proofs.lemmas.List.Edits.{sets}
use Rattle.x_grammar.specs.Grammar.{Program, program, text_process}
use Rattle.x_grammar.specs.Automaton.{Reading, accepted, refused}
use Rattle.x_grammar.specs.RawRows.{rows, first_row, row_count}
use Rattle.x_grammar.specs.TreeDepth.{depth, deepest}
use Rattle.x_program.specs.Layout.{row_words}
use Rattle.front_read_expressions.specs.declared.Ungrammatical.{Ungrammatical}
use Rattle.front_read_program.specs.declared.Parsed.{Parsed}

-- of n tokens, the first one after the specifications: that of the process, or of the first comment before it
abbrev pub process_start : ℕ → Program → ℕ
process_start n (program ss p) = n - length (text_process p [])

-- refused at token i
abbrev pub refused_at : ℕ → Result Parsed Ungrammatical
refused_at i = Err (record { token = i })

-- accepted: where the process starts, the rows of the whole table, the process depth and N; refused: the token that no program continues with
abbrev pub answer : ℕ → Reading → Result Parsed Ungrammatical
answer n (accepted p) = Ok (record { start = process_start n p; rows = row_count p; depth = depth p; deepest = deepest p })
answer n (refused r) = refused_at (n - length r)

-- a program's raw rows stand in the table, and nothing else was written; what a refusal leaves there is open
abbrev pub Written : Reading → List ℕ → List ℕ → Type 0
Written (accepted p) t t' = t' ≡ sets t (row_words * first_row p) (rows p)
Written (refused r) t t' = Unit {0}
