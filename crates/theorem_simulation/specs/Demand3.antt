-- Demands 2 and 3 over the definitions: what start, step and run do with an image as code is what the source's run does. Definitions and the statement; Demand3Proof has the proof.
-- It rests on the definitions of program, meaning, rules and machine alone. Start, step and run meet start_of, step_of and run_of by equation.
--
-- Wrong programs, and the clause that rules each out:
-- * always refusing: `starts`, `answered`; and `ends`, as no source that finishes could then end by SVC 0 (that translate itself refuses in no other case is its own contract).
-- * one fixed image, or one that finishes at once: `ended`, with the D words of the source's own end; `sees` and `reaches`, with its trace.
-- * doing nothing: `reaches`, for every access that the source comes to make; `ends`.
-- * working only for the first instruction: `each` and `sees` are of every instruction of every list of calls, `reaches` of every number of moves.
-- * a made-up count, of a run or in the step rule: `counted`; of a fault, which no image has: Demand3Example's `fault_counts`.
-- * writing where it likes and putting things right at the end: `within`, `untouched`, `sp_low`, `sp_high`, of every instruction.
use Rattle.std.specs.Prelude.{◌≡◌, true, List, [], ◌∷◌, ◌++◌, ℕ, zero, suc, ◌+◌, ◌*◌, ◌≤◌, ◌<◌, length, take, drop, eqb}
use Rattle.arm_word.specs.Choice.{pick}
use Rattle.arm_word.specs.Access.{Access}
use Rattle.x_program.specs.Tree.{Program, data_words, array_word}
use Rattle.x_program.specs.ProgramDepth.{deepest}
use Rattle.x_meaning.specs.SourceRun.{moves, begin, ends_with}
use Rattle.translate_rules.specs.ImageCode.{image}
use Rattle.arm_state.specs.State.{base, needed, fresh_of}
use Rattle.arm_state.specs.Effects.{Effect}
use Rattle.arm_state.specs.declared.Machine.{Machine}
use Rattle.arm_machine.specs.Step.{step_count, step_of}
use Rattle.arm_machine.specs.MachineRun.{RunAfter, run_of}
use Rattle.arm_machine.specs.Start.{start_of}
use Rattle.arm_machine.specs.Trace.{listed}

-- a fact of every member of a list
abbrev pub Each : {A : Type 0} → (A → Type 0) → List A → Type 0
Each P [] = Unit {0}
Each P (x ∷ xs) = P x × Each P xs

-- ── the program and the lent words ──

-- Limits and refusals: "D is the declared words", "N is the deepest expression", "Needed words: D + 2N + 8"
abbrev pub D : Program → ℕ
D p = data_words p.declarations

abbrev pub N : Program → ℕ
N p = deepest p.body

abbrev pub needs : Program → ℕ
needs p = needed (D p) (N p)

-- any words, as many as needed, as many as allowed
pub record Lent (p : Program) (memory : List ℕ) : Type 0 where
  pub words : Each (λ w. w < 4294967296) memory
  pub enough : needs p ≤ length memory
  pub few : length memory ≤ 16384

-- ── calls: step, or run with any limit ──

pub data Call : Type 0 where
  step : Call
  run : ℕ → Call

-- every instruction that n steps in a row try, the first that doesn't complete being the last; these are a run's own (Iterated)
unfoldable pub tried : ℕ → List ℕ → List ℕ → Machine → List Effect
tried zero code w m = []
tried (suc n) code w m =
    let e = step_of code w m in
    let more = tried n code e.after.words e.after.state.machine in
    e ∷ pick (eqb e.after.state.status 0) more []

-- what a call hands back, and the instructions that it tried
pub record Called : Type 0 where
  pub machine : Machine
  pub words : List ℕ
  pub status : ℕ
  pub number : ℕ
  pub count : ℕ
  pub tries : List Effect

-- a step hands back no count: it is what the step rule counts it as, of which a run's count is the sum
abbrev pub by_step : Effect → List Effect → Called
by_step e es = record {
  machine = e.after.state.machine;
  words = e.after.words;
  status = e.after.state.status;
  number = e.after.state.number;
  count = step_count e.after.state.status;
  tries = es;
}

abbrev pub by_run : RunAfter → List Effect → Called
by_run r es = record { machine = r.state.machine; words = r.words; status = r.state.status; number = r.state.number; count = r.state.count; tries = es }

abbrev pub call : List ℕ → Call → List ℕ → Machine → Called
call code step w m = by_step (step_of code w m) (tried 1 code w m)
call code (run n) w m = by_run (run_of n code w m) (tried n code w m)

-- one call after another, "calls after an end" too: each starts from the state and words that the one before handed back
unfoldable pub calls : List ℕ → List Call → List ℕ → Machine → List Called
calls code [] w m = []
calls code (k ∷ ks) w m = let a = call code k w m in a ∷ calls code ks a.words a.machine

abbrev pub all_tried : List Called → List Effect
all_tried [] = []
all_tried (a ∷ more) = a.tries ++ all_tried more

-- the trace of instructions: those of their accesses that lie in an array's words
abbrev pub trace_of : Program → List Effect → List Access
trace_of p [] = []
trace_of p (e ∷ es) = listed (array_word p.declarations) e.access ++ trace_of p es

-- the machine that start gives, by "the source's own numbers"; then a list of calls, all with the image as code
abbrev pub started : Program → List ℕ → Machine
started p memory = (start_of (image p) memory (D p) (N p)).machine

abbrev pub called : Program → List ℕ → List Call → List Called
called p memory ks = calls (image p) ks memory (started p memory)

-- ── what holds ──

-- the machine and the words that an instruction or a call leaves, from the lent words `memory`
pub record Kept (p : Program) (memory words : List ℕ) (m : Machine) : Type 0 where
  -- "sp stays from 0x20000000 + 4D to its first value"
  pub sp_low : base + 4 * D p ≤ m.sp
  pub sp_high : m.sp ≤ base + 4 * needs p
  -- the words past the needed ones are those that were lent
  pub untouched : drop (needs p) words ≡ drop (needs p) memory

-- demand 2: SVC n, only if the source's run ends so, with the same D words
pub record Ended (p : Program) (memory words : List ℕ) (number : ℕ) : Type 0 where
  pub j : ℕ
  pub ends : ends_with (moves j (begin p memory)).end number ≡ true
  pub same_words : take (D p) words ≡ (moves j (begin p memory)).words

-- what holds of each instruction
pub record Orderly (p : Program) (memory : List ℕ) (e : Effect) : Type 0 where
  -- it completes (0) or is an SVC (1): no fault, which would be 21 to 24 or 26
  pub no_fault : e.after.state.status < 2
  pub kept : Kept p memory e.after.words e.after.state.machine
  -- what it loads or stores in data lies in the declared or the stack words, by the access's own address
  pub within : Each (λ a. a.offset < needs p) e.access
  pub ended : e.after.state.status ≡ 1 → Ended p memory e.after.words e.after.state.number

-- what holds of each call: it is not refused, and no fault ends it: status 0 or 1; every instruction that was tried counts, as none faults
pub record Answered (p : Program) (memory : List ℕ) (a : Called) : Type 0 where
  pub not_refused : a.status < 2
  pub counted : a.count ≡ length a.tries
  pub kept : Kept p memory a.words a.machine
  pub ended : a.status ≡ 1 → Ended p memory a.words a.number

-- a call that ended by SVC n with these D words and this access list
pub record EndsBy (p : Program) (n : ℕ) (words : List ℕ) (trace : List Access) (a : Called) : Type 0 where
  pub by_svc : a.status ≡ 1
  pub number : a.number ≡ n
  pub same_words : take (D p) a.words ≡ words
  pub same_trace : trace_of p a.tries ≡ trace

pub record Demand3 (p : Program) (memory : List ℕ) : Type 0 where
  -- start is not refused: the machine that it gives is the fresh one
  pub starts : start_of (image p) memory (D p) (N p) ≡ record { status = 0; machine = fresh_of (D p) (N p) }
  -- for every list of calls: no call is refused
  pub answered : (ks : List Call) → Each (Answered p memory) (called p memory ks)
  -- and every instruction of it is as it should be
  pub each : (ks : List Call) → Each (Orderly p memory) (all_tried (called p memory ks))
  -- "after each list and each instruction in it, some number of moves gives the same access list"
  pub sees : (ks : List Call) (i : ℕ)
      → (j : ℕ) × (trace_of p (take i (all_tried (called p memory ks))) ≡ (moves j (begin p memory)).trace)
  -- "for every number of moves, some number of instructions does"
  pub reaches : (j : ℕ)
      → (n : ℕ) × (trace_of p (tried n (image p) memory (started p memory)) ≡ (moves j (begin p memory)).trace)
  -- demand 2: SVC n, if the source's run ends so: every run with a limit from some number on ends by it, with the same D words and the source's whole access list
  pub ends : (j n : ℕ) → let s = moves j (begin p memory) in ends_with s.end n ≡ true
      → (l : ℕ) × ((limit : ℕ) → l ≤ limit → EndsBy p n s.words s.trace (call (image p) (run limit) memory (started p memory)))
