-- What the front end's code answers and leaves in the syntax table, from what the source comes to. Definitions.
use Rattle.std.specs.Prelude.{◌≡◌, List, ℕ, Result, Ok, Err}
use Rattle.x_tokens.specs.TokenList as token
use Rattle.x_tokens.specs.TokenList.{Entry}
use Rattle.x_grammar.specs.Automaton.{reads}
use Rattle.x_program.specs.Tree.{Program, data_words}
use Rattle.x_program.specs.ProgramDepth.{deepest}
use Rattle.x_program.specs.Rows.{table_of, row_count}
use Rattle.x_program.specs.TableReadBack.{Holds}
use Rattle.x_verdict.specs.Symbols.{symbols}
use Rattle.x_verdict.specs.Front.{Outcome, refused, accepted, parsed}
use Rattle.x_tokens.specs.Refusals.{number}
use Rattle.x_tokens.specs.declared.refusal.Refusal.{Refusal}
use Rattle.front_analysis.specs.declared.Accepted.{Accepted}

-- accepted: the program, its counts, and its rows in the table
pub record Found (o : Outcome) (t : List ℕ) (tokens rows words depth : ℕ) : Type 0 where
  pub tree : Program
  pub outcome : o ≡ accepted tokens tree
  pub rows_are : rows ≡ row_count tree
  pub words_are : words ≡ data_words tree.declarations
  pub depth_is : depth ≡ deepest tree.body
  pub table : Holds t 0 (table_of tree)

abbrev pub Analysed : Outcome → List ℕ → Result Accepted Refusal → Type 0
Analysed o t (Err r) = o ≡ refused (number r.reason) r.place
Analysed o t (Ok a) = Found o t a.tokens a.rows a.words a.depth

-- what the tokens of a source come to, 13 and 14 apart
abbrev pub Parses : List ℕ → List Entry → List ℕ → Result Accepted Refusal → Type 0
Parses source ts t r = token.outcome source ≡ token.read ts → Analysed (parsed source ts (reads (symbols ts 0))) t r
