-- The names that a source declares, as a table: sort, first word, number of words, name; a val has its value behind the name.
-- Definitions; rests on the scope that the source's specifications make.
use Rattle.std.specs.Prelude.{ℕ, ◌-◌, List, [], ◌∷◌, ◌++◌, ltb, length}
use Rattle.arm_word.specs.Choice.{pick}
use Rattle.x_tokens.specs.TokenList as token
use Rattle.x_grammar.specs.Grammar.{program}
use Rattle.x_grammar.specs.Automaton as automaton
use Rattle.x_grammar.specs.Automaton.{reads}
use Rattle.x_names.specs.Scope.{Meaning, unknown, variable, array, constant, Entry, Scope, empty_scope, declare_all}
use Rattle.x_verdict.specs.Symbols.{text_of, symbols}
use Rattle.arm_word.specs.Ascii.{ascii}
use Rattle.text_lines.specs.Text.{decimal}
use Rattle.text_position.specs.Position.{spaces}

-- ── a line ──

-- a text at the right of so many columns
abbrev pub right : ℕ → List ℕ → List ℕ
right columns text = spaces (columns - length text) ++ text

-- first word and number of words have so many columns each
abbrev pub columns : ℕ
columns = 7

-- a word as a signed number: "true is -1"
unfoldable pub signed : ℕ → List ℕ
signed w = pick (ltb w 2147483648) (decimal w) (45 ∷ decimal (4294967296 - w))

-- what stands before the name of a var or an array
abbrev pub data_head : List ℕ → ℕ → ℕ → List ℕ
data_head sort first words = sort ++ (right columns (decimal first) ++ (right columns (decimal words) ++ ascii "  "))

-- and around the name of a val
abbrev pub val_head : List ℕ
val_head = ascii "val                  "

abbrev pub val_tail : ℕ → List ℕ
val_tail w = ascii " = " ++ (signed w ++ (10 ∷ []))

abbrev pub meaning_line : Meaning → List ℕ → List ℕ
meaning_line unknown name = []
meaning_line (variable v) name = data_head (ascii "var  ") v.offset 1 ++ (name ++ (10 ∷ []))
meaning_line (array a) name = data_head (ascii "array") a.offset a.length ++ (name ++ (10 ∷ []))
meaning_line (constant w) name = val_head ++ (name ++ val_tail w)

-- ── the table ──

-- in order of declaration: a scope has the latest name first
unfoldable pub name_lines : List Entry → List ℕ
name_lines [] = []
name_lines (e ∷ es) = name_lines es ++ meaning_line e.meaning e.name

-- what the specifications of a program declare; `text t` is the bytes of token t
abbrev pub program_scope : (ℕ → List ℕ) → automaton.Reading → Scope
program_scope text (automaton.accepted (program ds p)) = declare_all text ds empty_scope
program_scope text (automaton.refused unread) = empty_scope

abbrev pub token_scope : List ℕ → token.Outcome → Scope
token_scope source (token.read ts) = program_scope (text_of source ts) (reads (symbols ts 0))
token_scope source (token.refused n p) = empty_scope

-- the lines of a source's names
unfoldable pub names_of : List ℕ → List ℕ
names_of source = name_lines (token_scope source (token.outcome source)).entries

-- no table of names has more bytes: 68 a token
abbrev pub names_limit : ℕ
names_limit = 69632
