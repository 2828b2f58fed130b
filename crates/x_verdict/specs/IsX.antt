-- When a source is X, and the room that it takes. Definitions; rests on tokens, grammar and names.
use Rattle.std.specs.Prelude.{◌≡◌, false, List, [], ℕ, ◌≤◌}
use Rattle.x_tokens.specs.TokenList as token
use Rattle.x_tokens.specs.TokenList.{Entry}
use Rattle.x_grammar.specs.Grammar.{Program, text_program, WellFormed}
use Rattle.x_grammar.specs.TreeDepth.{too_deep}
use Rattle.x_program.specs.Layout.{table_room, code_room}
use Rattle.x_names.specs.Complaints.{complaints}
use Rattle.x_verdict.specs.Symbols.{place_of, text_of, symbols}

-- a source that is X: it has tokens, they are the text of a program, within the depth, and nothing is wrong with its names
pub record IsX (source : List ℕ) (ts : List Entry) (p : Program) : Type 0 where
  pub tokens : token.outcome source ≡ token.read ts
  pub proper : WellFormed p
  pub grammatical : symbols ts 0 ≡ text_program p
  pub shallow : too_deep p ≡ false
  pub nameable : complaints (text_of source ts) (place_of ts) p ≡ []

-- room for so many tokens: "4 x tokens words", "48 x tokens + 256 bytes"
pub record Room (tokens table code : ℕ) : Type 0 where
  pub rows : table_room tokens ≤ table
  pub image : code_room tokens ≤ code
