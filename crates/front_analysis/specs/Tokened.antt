-- What the token arrays say of the source: 1 to 5, 13, 14, or what its tokens come to. Laws; assumes nothing.
use Rattle.std.specs.Prelude.{◌≡◌, List, ℕ, ◌≤◌, ◌<◌, length}
use Rattle.std.proofs.Math.Path.{ap}
use Rattle.std.proofs.Common.{subst, ◌∙◌}
use borrow.Author.Tests.{lt-ltb, le-ltb}
use Rattle.x_tokens.specs.Refusals as refusal
use Rattle.x_tokens.specs.TokenList as token
use Rattle.x_tokens.specs.TokenList.{Entry, outcome, entries}
use Rattle.x_tokens.specs.SourceLaws as source_laws
use Rattle.x_tokens.proofs.SourceLaws.{outcome_sound}
use Rattle.x_grammar.specs.Automaton.{reads}
use Rattle.x_program.specs.Layout.{table_room, code_room}
use Rattle.x_verdict.specs.Symbols.{symbols}
use Rattle.x_verdict.specs.Front.{refused, parsed, tokened, front}
use Rattle.front_analysis.specs.Arrays.{length_entries}

module _ (source : List ℕ) (table code : ℕ) where
  -- 1 to 5
  pub scan_refused : (k p : ℕ) → outcome source ≡ token.refused k p → front source table code ≡ refused k p
  unfolding front
  scan_refused k p h = ap (tokened source table code) h

  pub small_place : (k p : ℕ) → outcome source ≡ token.refused k p → p ≤ 16384
  small_place k p h = (subst (source_laws.Sound (length source) 0) h (outcome_sound source)).3

  module _ (ks ps vs : List ℕ) (n : ℕ) (h : outcome source ≡ token.read (entries ks ps vs 0 n)) where
    abbrev ts : List Entry
    ts = entries ks ps vs 0 n

    pub short_table : table < table_room n → front source table code ≡ refused refusal.short_table 0
    unfolding front
    short_table l = ap (tokened source table code) h ∙ rw (length_entries ks ps vs n 0, lt-ltb table (table_room n) l)

    pub short_code : table_room n ≤ table → code < code_room n → front source table code ≡ refused refusal.short_code 0
    unfolding front
    short_code g l = ap (tokened source table code) h ∙ rw (length_entries ks ps vs n 0, le-ltb table (table_room n) g, lt-ltb code (code_room n) l)

    pub with_room : table_room n ≤ table → code_room n ≤ code → front source table code ≡ parsed source ts (reads (symbols ts 0))
    unfolding front
    with_room g l = ap (tokened source table code) h ∙ rw (length_entries ks ps vs n 0, le-ltb table (table_room n) g, le-ltb code (code_room n) l)
