-- The exported calls over words: what each leaves in its answer, in the 12 words of the state and in the lent buffers. Definitions; rests on `gutilamboy_numbers` and on what the calls mean.
use Rattle.std.specs.Prelude.{ℕ, Bool, List, [], ◌∷◌, ltb, eqb}
use Rattle.arm_word.specs.Choice.{pick}
use Rattle.arm_state.specs.Effects.{After}
use Rattle.arm_state.specs.declared.Machine.{Machine}
use Rattle.arm_state.specs.declared.Stepped.{Stepped}
use Rattle.arm_machine.specs.Step.{step_of}
use Rattle.arm_machine.specs.MachineRun.{RunAfter, svc_count, run_of}
use Rattle.arm_machine.specs.Start.{start_of}
use Rattle.arm_machine.specs.declared.Ran.{Ran}
use Rattle.arm_machine.specs.declared.Started.{Started}
use Rattle.translate_source.specs.Translate.{Translated, translation}
use Rattle.translate_source.specs.declared.Translation.{Translation}
use Rattle.gutilamboy_numbers.specs.Numbers.{words_of_state, state_of}

-- ── start ──

pub record StartLeft : Type 0 where
  pub status : ℕ
  pub state : List ℕ

abbrev pub start_left : ℕ → List ℕ → StartLeft
start_left status state = record { status = status; state = state }

abbrev pub of_start : Started → StartLeft
of_start s = start_left s.status (words_of_state s.machine)

abbrev pub start_call : List ℕ → List ℕ → ℕ → ℕ → StartLeft
start_call code memory d n = of_start (start_of code memory d n)

-- ── step and run: the answer's words, the state's, the memory's ──

pub record Left : Type 0 where
  pub out : List ℕ
  pub state : List ℕ
  pub memory : List ℕ

abbrev pub left : List ℕ → List ℕ → List ℕ → Left
left out state memory = record { out = out; state = state; memory = memory }

-- status and number; and of a run its count
abbrev pub stepped_words : Stepped → List ℕ
stepped_words s = s.status ∷ s.number ∷ []

abbrev pub ran_words : Ran → List ℕ
ran_words r = r.status ∷ r.number ∷ r.count ∷ []

-- the state's words where an instruction completed; else, other bits of the APSR word included, the words that came
abbrev pub handed : Bool → Machine → List ℕ → List ℕ
handed completed m state = pick completed (words_of_state m) state

-- a step that completed: "a faulting instruction changes no register", a refused step "hands back its state", and so does an SVC
abbrev pub of_step : List ℕ → After → Left
of_step state a = left (stepped_words a.state) (handed (eqb a.state.status 0) a.state.machine state) a.words

-- an SVC counts, and leaves the state to the instructions before it
abbrev pub of_run : List ℕ → RunAfter → Left
of_run state r = left (ran_words r.state) (handed (ltb (svc_count r.state.status) r.state.count) r.state.machine state) r.words

abbrev pub step_call : List ℕ → List ℕ → List ℕ → Left
step_call code memory state = of_step state (step_of code memory (state_of state)).after

abbrev pub run_call : ℕ → List ℕ → List ℕ → List ℕ → Left
run_call limit code memory state = of_run state (run_of limit code memory (state_of state))

-- ── translate: the answer's words, in the order of the report's lines, the table's words, the code's bytes ──

pub record TranslateLeft : Type 0 where
  pub out : List ℕ
  pub table : List ℕ
  pub code : List ℕ

abbrev pub translate_left : List ℕ → List ℕ → List ℕ → TranslateLeft
translate_left out table code = record { out = out; table = table; code = code }

abbrev pub translation_words : Translation → List ℕ
translation_words t = t.status ∷ t.place ∷ t.tokens ∷ t.rows ∷ t.«data» ∷ t.depth ∷ t.code ∷ []

abbrev pub of_translation : Translated → TranslateLeft
of_translation t = translate_left (translation_words t.answer) t.table t.code

-- a source, the words that the table holds before the call and the bytes that the code buffer does
abbrev pub translate_call : List ℕ → List ℕ → List ℕ → TranslateLeft
translate_call source table code = of_translation (translation source table code)
