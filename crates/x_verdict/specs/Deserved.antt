-- When a source with buffers of such sizes deserves each refusal: a clause a number, none of which looks at another; and document 01's ranking of them. Definitions.
-- Rests on tokens, grammar, depth and names.
use Rattle.std.specs.Prelude.{◌≡◌, Bool, true, false, ℕ, ◌<◌, ◌≤◌, eqb, ltb, leb, length}
use mathlib.Core.List.{List, Memᴰ}
use Rattle.arm_word.specs.Choice.{pick}
use Rattle.x_tokens.specs.Refusals as refusal
use Rattle.x_tokens.specs.TokenList.{Entry}
use Rattle.x_tokens.specs.Split.{split, AllTokens, Flaw, Starts}
use Rattle.x_grammar.specs.Grammar.{Token, Program, text_program, WellFormed}
use Rattle.x_grammar.specs.FirstBad.{First}
use Rattle.x_grammar.specs.TreeDepth.{too_deep}
use Rattle.x_program.specs.Layout.{table_room, code_room}
use Rattle.x_names.specs.Complaints.{complaints}
use Rattle.x_verdict.specs.Symbols.{place_of, text_of, symbols, unread_place}

-- the tokens of a source, where all of it is tokens
abbrev pub HasTokens : List ℕ → List Entry → Type 0
HasTokens source ts = AllTokens (split source) ts

-- the program that a source is by the grammar
pub record HasTree (source : List ℕ) (ts : List Entry) (p : Program) : Type 0 where
  pub tokens : HasTokens source ts
  pub proper : WellFormed p
  pub grammatical : symbols ts 0 ≡ text_program p

-- the token that no program continues with, and its place: "it, or the source length"
pub record Ungrammatical (source : List ℕ) (p : ℕ) : Type 0 where
  pub ts : List Entry
  pub unread : List Token
  pub tokens : HasTokens source ts
  pub first_bad : First (symbols ts 0) unread
  pub place : p ≡ unread_place ts (length unread) (length source)

-- what the names of a program deserve: a number among 8 to 12, and the place of the name
pub record Misnamed (source : List ℕ) (n p : ℕ) : Type 0 where
  pub ts : List Entry
  pub tree : Program
  pub has : HasTree source ts tree
  pub among : Memᴰ (record { number = n; place = p }) (complaints (text_of source ts) (place_of ts) tree)

-- Limits and refusals: the table, by number and place
pub data Deserves (source : List ℕ) (table code : ℕ) : ℕ → ℕ → Type 0 where
  -- 1 "source above 16,384 bytes": 0
  long_source : 16384 < length source → Deserves source table code refusal.long_source 0
  -- 2 "broken token or byte that starts none": its first byte
  broken_token : {p : ℕ} → Flaw (split source) refusal.broken_token p → Deserves source table code refusal.broken_token p
  -- 3 "decimal above 2,147,483,647 or hex above FFFFFFFF": its first byte
  large_number : {p : ℕ} → Flaw (split source) refusal.large_number p → Deserves source table code refusal.large_number p
  -- 4 "name above 32 bytes": its first byte
  long_name : {p : ℕ} → Flaw (split source) refusal.long_name p → Deserves source table code refusal.long_name p
  -- 5 "more than 1,024 tokens, comments counted": first byte of token 1,025
  many_tokens : {p : ℕ} → Starts (split source) 1024 p → Deserves source table code refusal.many_tokens p
  -- 13 "table shorter than 4 x tokens words": 0
  short_table : {ts : List Entry} → HasTokens source ts → table < table_room (length ts) → Deserves source table code refusal.short_table 0
  -- 14 "code buffer shorter than 48 x tokens + 256 bytes": 0
  short_code : {ts : List Entry} → HasTokens source ts → code < code_room (length ts) → Deserves source table code refusal.short_code 0
  -- 6 "grammar: first token that no program continues with": it, or the source length
  ungrammatical : {p : ℕ} → Ungrammatical source p → Deserves source table code refusal.ungrammatical p
  -- 7 "depth of an expression, assigned element or process above 32": 0
  deep_program : {ts : List Entry} {tree : Program} → HasTree source ts tree → too_deep tree ≡ true → Deserves source table code refusal.deep_program 0
  -- 8 "name not declared before": the name
  not_declared : {p : ℕ} → Misnamed source refusal.not_declared p → Deserves source table code refusal.not_declared p
  -- 9 "name declared twice": the second
  declared_twice : {p : ℕ} → Misnamed source refusal.declared_twice p → Deserves source table code refusal.declared_twice p
  -- 10 "wrong kind": the name
  wrong_kind : {p : ℕ} → Misnamed source refusal.wrong_kind p → Deserves source table code refusal.wrong_kind p
  -- 11 "array length, read unsigned, not 1 to 8,192": the array's name
  bad_length : {p : ℕ} → Misnamed source refusal.bad_length p → Deserves source table code refusal.bad_length p
  -- 12 "more than 256 names, or data above 8,192 words": the name that passes it
  too_much : {p : ℕ} → Misnamed source refusal.too_much p → Deserves source table code refusal.too_much p

-- "1 comes first; then 2 to 5 ...; then 13, 14, 6, 7; then 8 to 12": which numbers are ranked together, and where
abbrev pub rank : ℕ → ℕ
rank n =
    pick (eqb n refusal.long_source) 0 (pick (leb n refusal.many_tokens) 1 (pick (eqb n refusal.short_table) 2 (pick (eqb n refusal.short_code) 3 (pick (eqb n refusal.ungrammatical) 4
    (pick (eqb n refusal.deep_program) 5 6)))))

-- m at q goes before n at p: by rank, then "by place, smaller number first at one place"
abbrev pub goes_before : ℕ → ℕ → ℕ → ℕ → Bool
goes_before m q n p = pick (eqb (rank m) (rank n)) (pick (eqb q p) (ltb m n) (ltb q p)) (ltb (rank m) (rank n))

-- n at p is deserved, and nothing that is deserved goes before it
pub record FirstDeserved (source : List ℕ) (table code n p : ℕ) : Type 0 where
  pub deserved : Deserves source table code n p
  pub first : (m q : ℕ) → Deserves source table code m q → goes_before m q n p ≡ false

-- a refusal's number is one of 1 to 14, its place a byte of the source or its length
pub record Numbered (source : List ℕ) (n p : ℕ) : Type 0 where
  pub low : refusal.long_source ≤ n
  pub high : n ≤ refusal.short_code
  pub inside : p ≤ length source
