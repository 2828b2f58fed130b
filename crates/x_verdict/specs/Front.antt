-- What a source comes to: the resolved program, or one refusal, in document 01's order. Definitions; rests on tokens, grammar and names.
use Rattle.std.specs.Prelude.{List, ℕ, ltb, length}
use Rattle.arm_word.specs.Choice.{pick}
use Rattle.x_tokens.specs.Refusals as refusal
use Rattle.x_tokens.specs.TokenList as token
use Rattle.x_tokens.specs.TokenList.{Entry}
use Rattle.x_grammar.specs.Grammar as grammar
use Rattle.x_grammar.specs.Automaton as automaton
use Rattle.x_grammar.specs.Automaton.{reads}
use Rattle.x_grammar.specs.TreeDepth.{too_deep}
use Rattle.x_program.specs.Layout.{table_room, code_room}
use Rattle.x_program.specs.Tree.{Program}
use Rattle.x_names.specs.Complaints as names
use Rattle.x_names.specs.Complaints.{complaints, least}
use Rattle.x_names.specs.Resolve.{resolve}
use Rattle.x_verdict.specs.Symbols.{place_of, text_of, symbols, unread_place}

-- a source is refused, by number and place, or accepted, with its number of tokens and its program
pub data Outcome : Type 0 where
  refused : ℕ → ℕ → Outcome
  accepted : ℕ → Program → Outcome

-- ── the order: "1 comes first; then 2 to 5 ...; then 13, 14, 6, 7; then 8 to 12" ──

-- 8 to 12, else accepted
abbrev pub judged : names.Verdict → ℕ → Program → Outcome
judged (names.refused c) n p = refused c.number c.place
judged names.fine n p = accepted n p

-- "7 depth of an expression, assigned element or process above 32", place 0
unfoldable pub named : List ℕ → List Entry → grammar.Program → Outcome
named source ts p =
    pick (too_deep p) (refused refusal.deep_program 0)
    (judged (least (complaints (text_of source ts) (place_of ts) p)) (length ts) (resolve (text_of source ts) p))

-- "6 grammar: first token that no program continues with"
abbrev pub parsed : List ℕ → List Entry → automaton.Reading → Outcome
parsed source ts (automaton.accepted p) = named source ts p
parsed source ts (automaton.refused unread) = refused refusal.ungrammatical (unread_place ts (length unread) (length source))

-- "13 table shorter than 4 x tokens words"; "14 code buffer shorter than 48 x tokens + 256 bytes": places 0
abbrev pub tokened : List ℕ → ℕ → ℕ → token.Outcome → Outcome
tokened source table code (token.refused n p) = refused n p
tokened source table code (token.read ts) =
    pick (ltb table (table_room (length ts))) (refused refusal.short_table 0)
    (pick (ltb code (code_room (length ts))) (refused refusal.short_code 0)
    (parsed source ts (reads (symbols ts 0))))

-- a source, with a table of so many words and a code buffer of so many bytes
unfoldable pub front : List ℕ → ℕ → ℕ → Outcome
front source table code = tokened source table code (token.outcome source)
