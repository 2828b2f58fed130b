-- Demand 1's refusals and demands 3, 4 and 5 at the C boundary: the answer's words, the lent buffers, the 12 words of the state and the words of memory that the exported calls leave.
-- Statement; rests on the exported calls' definitions.
-- `gutilamboy_translate`, `gutilamboy_start`, `gutilamboy_step` and `gutilamboy_run` meet `translate_call`, `start_call`, `step_call` and `run_call` by equation, `gutilamboy_walk` meets `walk_call`.
use Rattle.std.specs.Prelude.{◌≡◌, true, List, [], ◌∷◌, ℕ, ◌+◌, ◌*◌, ◌≤◌, ◌<◌, length, get_or, take, drop}
use Rattle.x_program.specs.Layout.{row_words}
use Rattle.x_program.specs.Tree.{Program}
use Rattle.x_verdict.specs.Deserved.{FirstDeserved}
use Rattle.x_meaning.specs.SourceRun.{moves, begin, ends_with}
use Rattle.translate_rules.specs.ImageCode.{image}
use Rattle.arm_state.specs.State.{base}
use Rattle.gutilamboy.specs.Calls.{start_left, start_call, Left, step_call, run_call, TranslateLeft, translate_left, translate_call}
use Rattle.x_meaning.specs.TableRun.{Walk}
use Rattle.walker_arrays.specs.AccessEntries.{handed}
use Rattle.gutilamboy_walker.specs.WalkCall.{WalkedLeft, walked_left, walk_call}
use Rattle.theorem_simulation.specs.Demand3.{Each, D, N, needs, Lent, Call, step, run, Ended}
use Rattle.theorem_simulation.specs.Demand4.{Agree, Both}
use Rattle.theorem_walker.specs.Demand5.{walk}
use Rattle.theorem_demands.specs.Demands.{Translates}

-- one exported call after another, all with the same code: each gets the state and the memory that the one before left
abbrev pub exported : List ℕ → Call → List ℕ → List ℕ → Left
exported code step memory state = step_call code memory state
exported code (run limit) memory state = run_call limit code memory state

unfoldable pub exported_calls : List ℕ → List Call → List ℕ → List ℕ → List Left
exported_calls code [] memory state = []
exported_calls code (k ∷ ks) memory state = let a = exported code k memory state in a ∷ exported_calls code ks a.memory a.state

-- the words that start leaves: r0 to r7, sp, lr, pc, APSR
abbrev pub first_words : Program → List ℕ
first_words p = 0 ∷ 0 ∷ 0 ∷ 0 ∷ 0 ∷ 0 ∷ 0 ∷ base ∷ (base + 4 * needs p) ∷ 0 ∷ 0 ∷ 0 ∷ []

-- in the words that a call left: its status and number, and sp
abbrev pub status_in : Left → ℕ
status_in l = get_or l.out 0 0

abbrev pub number_in : Left → ℕ
number_in l = get_or l.out 1 0

abbrev pub sp_in : Left → ℕ
sp_in l = get_or l.state 8 0

-- what holds of each call
pub record InOrder (p : Program) (memory : List ℕ) (l : Left) : Type 0 where
  -- nothing is refused, nothing faults
  pub answered : status_in l < 2
  pub state_words : length l.state ≡ 12
  -- the stack stays in its words
  pub sp_low : base + 4 * D p ≤ sp_in l
  pub sp_high : sp_in l ≤ base + 4 * needs p
  pub all_words : length l.memory ≡ length memory
  -- the words past the needed ones are those that were lent
  pub untouched : drop (needs p) l.memory ≡ drop (needs p) memory
  -- SVC n, only if the source's run ends so, with the same D words
  pub ended : status_in l ≡ 1 → Ended p memory l.memory (number_in l)

-- a run that ended by SVC n with these D words
pub record EndsSo (p : Program) (n : ℕ) (words : List ℕ) (l : Left) : Type 0 where
  pub by_svc : status_in l ≡ 1
  pub number : number_in l ≡ n
  pub same_words : take (D p) l.memory ≡ words

pub record AtBoundary (p : Program) (memory : List ℕ) : Type 0 where
  pub starts : start_call (image p) memory (D p) (N p) ≡ start_left 0 (first_words p)
  pub each : (ks : List Call) → Each (InOrder p memory) (exported_calls (image p) ks memory (first_words p))
  pub ends : (j n : ℕ) → ends_with (moves j (begin p memory)).end n ≡ true
      → (l : ℕ) × ((limit : ℕ) → l ≤ limit → EndsSo p n (moves j (begin p memory)).words (run_call limit (image p) memory (first_words p)))

-- two exported calls that are answered alike: the answer's words (status, number and, of a run, the count) and the D words
pub record SameLeft (p : Program) (a b : Left) : Type 0 where
  pub answer : a.out ≡ b.out
  pub words : Agree p a.memory b.memory

-- the rows of a translation: the first words of the table, four for each row of the answer
abbrev pub rows_left : TranslateLeft → List ℕ
rows_left t = take (row_words * get_or t.out 3 0) t.table

-- what an exported walk leaves, by the walk: status, number, steps and accesses, the words, and the entries from number `first` on
abbrev pub leaves : ℕ → List ℕ → Walk → WalkedLeft
leaves first buffer w = walked_left (w.status ∷ w.number ∷ w.steps ∷ length w.trace ∷ []) w.words (handed first buffer w.trace)

pub record Exported : Type 0 where
  -- what is deserved first is answered, status and place and no counts, and "a refusal changes neither buffer" (request 2026-06)
  pub one : (source table code : List ℕ) (n p : ℕ) → FirstDeserved source (length table) (length code) n p
      → translate_call source table code ≡ translate_left (n ∷ p ∷ 0 ∷ 0 ∷ 0 ∷ 0 ∷ 0 ∷ []) table code
  -- any accepted source, any starting words, needed words <= memory <= 16,384 words, any list of exported calls
  pub three : (source table code : List ℕ) (p : Program) (memory : List ℕ) → Translates source table code p → Lent p memory → AtBoundary p memory
  -- two memories that agree in the D declared words
  pub four : (source table code : List ℕ) (p : Program) (memory other : List ℕ) → Translates source table code p → Lent p memory → Lent p other → Agree p memory other
      → (ks : List Call) → Both (SameLeft p) (exported_calls (image p) ks memory (first_words p)) (exported_calls (image p) ks other (first_words p))
  -- the exported walk of the rows that translate left is the walk that demand 5 speaks of, its accesses shown from any number on, as many as a lent buffer holds
  pub five : (source table code : List ℕ) (p : Program) → Translates source table code p
      → (memory : List ℕ) (limit first : ℕ) (buffer : List ℕ)
      → walk_call limit first (rows_left (translate_call source table code)) memory buffer ≡ leaves first buffer (walk p memory limit)
