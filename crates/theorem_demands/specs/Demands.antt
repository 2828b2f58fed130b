-- Demands 1, 2 and 3, with the requests 2026-12 and 2026-01 as a fourth and a fifth, from source bytes to machine calls: statements alone, over the definitions that the public calls meet by equation.
-- `translate` meets `translation`; `start`, `step` and `run` meet `start_of`, `step_of` and `run_of`; `encode`, read by `encoded`, and `decode` meet `encode_of` and `decode_of`; `walk` hands back `walk_of` (`left_by_walk`).
use Rattle.std.specs.Prelude.{◌≡◌, List, ℕ, ◌<◌, Some, length, eqb}
use Rattle.arm_word.specs.Choice.{pick}
use Rattle.x_tokens.specs.TokenList.{Entry}
use Rattle.x_grammar.specs.Grammar as grammar
use Rattle.x_program.specs.Tree.{Program}
use Rattle.x_program.specs.Rows.{table_of, row_count}
use Rattle.x_names.specs.Resolve.{resolve}
use Rattle.x_verdict.specs.Symbols.{text_of}
use Rattle.x_verdict.specs.IsX.{IsX, Room}
use Rattle.x_verdict.specs.Deserved.{Deserves, FirstDeserved, Numbered}
use Rattle.translate_rules.specs.ImageCode.{image}
use Rattle.translate_source.specs.Translate.{Translated, left, filled, translation}
use Rattle.arm_encoding.specs.Encoding.{encode_of, decode_of, whole}
use Rattle.arm_encoding.specs.declared.Instr.{Instr}
use Rattle.arm_state.specs.declared.Machine.{Machine}
use Rattle.arm_machine.specs.Step.{step_of}
use Rattle.theorem_simulation.specs.Demand3.{D, N, Lent, Demand3}
use Rattle.theorem_simulation.specs.Demand4.{Agree, Demand4}
use Rattle.theorem_walker.specs.Demand5.{Demand5}

-- ── demand 1: everything is answered ──

-- a refusal over buffers that hold these: "a refusal changes neither buffer" (request 2026-06), "its counts are all 0"
pub record Refused (source table code : List ℕ) (n p : ℕ) (t : Translated) : Type 0 where
  pub status : t.answer.status ≡ n
  pub place : t.answer.place ≡ p
  -- the number is 1 to 14, the place a byte of the source or its length
  pub numbered : Numbered source n p
  -- every word of the table and every byte of the code buffer is what it was
  pub table_kept : t.table ≡ table
  pub code_kept : t.code ≡ code
  pub no_tokens : t.answer.tokens ≡ 0
  pub no_rows : t.answer.rows ≡ 0
  pub no_data : t.answer.«data» ≡ 0
  pub no_depth : t.answer.depth ≡ 0
  pub no_code : t.answer.code ≡ 0

-- what a caller has that takes an update only where it is accepted (examples/c/pallet.c): the answer of the rule in use, and the two buffers
abbrev pub update : Translated → List ℕ → Translated
update rule source =
    let new = translation source rule.table rule.code in
    pick (eqb new.answer.status 0) new (left rule.answer new.table new.code)

-- "An instruction that faults changes no register and no word"; nor does an SVC or a refusal
pub record Unchanged (code words : List ℕ) (m : Machine) : Type 0 where
  pub machine : (step_of code words m).after.state.machine ≡ m
  pub memory : (step_of code words m).after.words ≡ words

pub record Demand1 : Type 0 where
  -- "in document 01's order": what is deserved first is what is answered, and nothing else
  pub refuses : (source table code : List ℕ) (n p : ℕ) → FirstDeserved source (length table) (length code) n p → Refused source table code n p (translation source table code)
  pub refused_first : (source table code : List ℕ) → 0 < (translation source table code).answer.status
      → FirstDeserved source (length table) (length code) (translation source table code).answer.status (translation source table code).answer.place
  -- "A refusal is given in no other case"
  pub accepts : (source table code : List ℕ) → ((n p : ℕ) → Deserves source (length table) (length code) n p → ⊥) → (translation source table code).answer.status ≡ 0
  pub accepted_spared : (source table code : List ℕ) → (translation source table code).answer.status ≡ 0 → (n p : ℕ) → Deserves source (length table) (length code) n p → ⊥
  -- request 2026-06: "A scanner that gets a bad update must go on with the old ones"
  pub goes_on : (rule : Translated) (source : List ℕ) → 0 < (translation source rule.table rule.code).answer.status → update rule source ≡ rule
  pub faulted : (code words : List ℕ) (m : Machine) → 0 < (step_of code words m).after.state.status → Unchanged code words m

-- ── demand 2: exactly X, exactly Arm ──

-- X by grammar, names and limits, with room, as this program
pub record XAs (source : List ℕ) (table code : ℕ) (p : Program) : Type 0 where
  pub ts : List Entry
  pub tree : grammar.Program
  pub is_X : IsX source ts tree
  pub room : Room (length ts) table code
  pub resolved : p ≡ resolve (text_of source ts) tree

-- a source that the translation into buffers that hold these accepted, as this program
pub record Translates (source table code : List ℕ) (p : Program) : Type 0 where
  pub is_X : XAs source (length table) (length code) p
  pub status : (translation source table code).answer.status ≡ 0
  pub place : (translation source table code).answer.place ≡ 0
  -- the counts: tokens, "comments counted", and rows; "The source's own numbers are those that start takes, D and N"; "code= the image's bytes"
  pub tokens : (translation source table code).answer.tokens ≡ length is_X.ts
  pub rows : (translation source table code).answer.rows ≡ row_count p
  pub data_words : (translation source table code).answer.«data» ≡ D p
  pub depth : (translation source table code).answer.depth ≡ N p
  pub code_bytes : (translation source table code).answer.code ≡ length (image p)
  -- rows and image stand at the front, and "An accepted call zeroes what lies past the table and past the image"
  pub table_filled : (translation source table code).table ≡ filled (length table) (table_of p)
  pub code_filled : (translation source table code).code ≡ filled (length code) (image p)

pub record Demand2 : Type 0 where
  -- "With room, a source is accepted exactly if it is X by grammar, names and limits"; "Status 0, place 0 is accepted"
  pub accepted_is_X : (source table code : List ℕ) → (translation source table code).answer.status ≡ 0 → (p : Program) × Translates source table code p
  pub X_is_accepted : (source table code : List ℕ) (p : Program) → XAs source (length table) (length code) p → Translates source table code p
  -- "Each instruction is encoded and read back as Arm's manual says": the table is that of arm_encoding; both ways round it is the same
  pub decoded : (i : Instr) → (encode_of i).status ≡ 0 → decode_of (encode_of i).first (encode_of i).second ≡ Some i
  pub encoded : (h s : ℕ) (i : Instr) → s < 65536 → decode_of h s ≡ Some i → encode_of i ≡ whole h s

-- ── demand 3, and demand 2's ends: one claim over any list of calls; demand 4, old words in the stack don't matter; demand 5, the walker is the image's equal ──

pub record Demands : Type 0 where
  pub one : Demand1
  pub two : Demand2
  -- any accepted source, any starting words, needed words <= memory <= 16,384 words, any list of calls
  pub three : (source table code : List ℕ) (p : Program) (memory : List ℕ) → Translates source table code p → Lent p memory → Demand3 p memory
  -- "For the image of one accepted source, started as in demand 3 over two memories that agree in the D declared words"
  pub four : (source table code : List ℕ) (p : Program) (memory other : List ℕ) → Translates source table code p → Lent p memory → Lent p other → Agree p memory other
      → Demand4 p memory other
  -- "For every accepted source, any starting words and a memory of the needed words"
  pub five : (source table code : List ℕ) (p : Program) (memory : List ℕ) → Translates source table code p → Lent p memory → Demand5 p memory
