-- The run of a syntax table, row by row: what the walker of request 2026-01 does. Definitions, in the order of the rows' kinds.
-- It goes by row numbers, as the source's run goes by the tree: a row stands for the same thing wherever it is used.
use Rattle.std.specs.Prelude.{ℕ, zero, suc, ◌+◌, ◌-◌, Bool, true, false, List, [], ◌∷◌, ◌++◌, length, get_or, set, take, drop, ltb, eqb}
use Rattle.arm_word.specs.Choice.{pick}
use Rattle.arm_word.specs.Access.{Access, loaded, stored}
use Rattle.x_program.specs.Layout as layout
use Rattle.x_program.specs.Table.{word, monadic_of, diadic_of}
use Rattle.x_program.specs.ValidTable.{rows_in, data_in, valid}
use Rattle.x_meaning.specs.Operators.{work_monadic, work_diadic}
use Rattle.x_meaning.specs.SourceRun.{End, going, finish, stopped, bad_subscript, top, rest}

-- ── a point of the run ──

-- a thing to do: row r is begun, or a part of row r's own work is done
pub data Item : Type 0 where
  begin : ℕ → Item
  work₁ : ℕ → Item
  work₂ : ℕ → Item
  check : ℕ → Item
  load : ℕ → Item
  set_variable : ℕ → Item
  store : ℕ → Item
  choose : ℕ → Item
  repeat : ℕ → Item

-- the D words, the access list, the row that is begun next, what is to do after it, the pile, and how the run ended, if it has; then no row is next
pub record State : Type 0 where
  pub words : List ℕ
  pub trace : List Access
  pub next : ℕ
  pub continuation : List Item
  pub stack : List ℕ
  pub end : End

-- row r is next
abbrev pub next : List ℕ → List Access → ℕ → List Item → List ℕ → State
next d l r c s = record { words = d; trace = l; next = r; continuation = c; stack = s; end = going }

abbrev pub ended : List ℕ → List Access → End → State
ended d l e = record { words = d; trace = l; next = 0; continuation = []; stack = []; end = e }

-- ── the words of rows ──

-- offset and length of the array that row r names, offset of its variable
abbrev pub offset_of : List ℕ → ℕ → ℕ
offset_of t r = word t (word t r 1) 1

abbrev pub length_of : List ℕ → ℕ → ℕ
length_of t r = word t (word t r 1) 2

-- ── what is to do between two rows that are begun ──

-- "Working, load, set, store and choice take their words off the pile, working and load put the result on, load and store are listed. A check only looks"; "nothing left to do as finish"
unfoldable pub settle : List ℕ → List Item → List ℕ → List Access → List ℕ → State
settle t [] d l s = ended d l finish
settle t (begin r ∷ c) d l s = next d l r c s
settle t (work₁ r ∷ c) d l s = settle t c d l (work_monadic (monadic_of (word t r 1)) (top s) ∷ rest s)
settle t (work₂ r ∷ c) d l s = settle t c d l (work_diadic (diadic_of (word t r 1)) (top (rest s)) (top s) ∷ rest (rest s))
settle t (check r ∷ c) d l s = pick (ltb (top s) (length_of t r)) (settle t c d l s) (ended d l bad_subscript)
settle t (load r ∷ c) d l s =
    let k = offset_of t r + top s in
    settle t c d (l ++ loaded k (get_or d k 0) ∷ []) (get_or d k 0 ∷ rest s)
settle t (set_variable r ∷ c) d l s = settle t c (set d (offset_of t r) (top s)) l (rest s)
settle t (store r ∷ c) d l s =
    let k = offset_of t r + top (rest s) in
    settle t c (set d k (top s)) (l ++ stored k (get_or d k 0) (top s) ∷ []) (rest (rest s))
-- "13 if (condition, then, else)": the part that is chosen
settle t (choose r ∷ c) d l s = next d l (pick (eqb (top s) 0) (word t r 3) (word t r 2)) c (rest s)
-- "14 while (condition, body)": the body with the while again, which is begun anew at each test; or nothing
settle t (repeat r ∷ c) d l s = pick (eqb (top s) 0) (settle t c d l (rest s)) (next d l (word t r 2) (begin r ∷ c) (rest s))

-- ── a row is begun ──

-- its parts in order, and what is to do after each, as the source's move for the same thing has them
unfoldable pub begun : List ℕ → ℕ → List ℕ → List Access → List Item → List ℕ → State
begun t r d l c s =
    pick (eqb (word t r 0) layout.number) (settle t c d l (word t r 1 ∷ s))
    (pick (eqb (word t r 0) layout.variable) (settle t c d l (get_or d (offset_of t r) 0 ∷ s))
    (pick (eqb (word t r 0) layout.element) (next d l (word t r 2) (check r ∷ load r ∷ c) s)
    (pick (eqb (word t r 0) layout.monadic) (next d l (word t r 2) (work₁ r ∷ c) s)
    (pick (eqb (word t r 0) layout.diadic) (next d l (word t r 2) (begin (word t r 3) ∷ work₂ r ∷ c) s)
    (pick (eqb (word t r 0) layout.skip) (settle t c d l s)
    (pick (eqb (word t r 0) layout.stop) (ended d l stopped)
    (pick (eqb (word t r 0) layout.assign) (next d l (word t r 2) (set_variable r ∷ c) s)
    (pick (eqb (word t r 0) layout.assign_element) (next d l (word t r 2) (check r ∷ begin (word t r 3) ∷ store r ∷ c) s)
    (pick (eqb (word t r 0) layout.sequence) (next d l (word t r 1) (begin (word t r 2) ∷ c) s)
    (pick (eqb (word t r 0) layout.if) (next d l (word t r 1) (choose r ∷ c) s)
    (next d l (word t r 1) (repeat r ∷ c) s)))))))))))

abbrev pub turn_by : List ℕ → End → State → State
turn_by t going x = begun t x.next x.words x.trace x.continuation x.stack
turn_by t finish x = x
turn_by t stopped x = x
turn_by t bad_subscript x = x

-- one row more; after an end nothing changes
abbrev pub turn : List ℕ → State → State
turn t x = turn_by t x.end x

-- "the last row is the program"
abbrev pub first : List ℕ → List ℕ → State
first t d = next d [] (rows_in t - 1) [] []

-- ── a walk ──

-- how it ended, as a run of the machine tells: 0 for the limit, 1 and SVC's number for an end, else the number of the refusal
abbrev pub status_of : End → ℕ
status_of going = 0
status_of finish = 1
status_of stopped = 1
status_of bad_subscript = 1

-- The image: "SVC 0 is finish, SVC 1 stop, SVC 2 bad subscript"
abbrev pub number_of : End → ℕ
number_of going = 0
number_of finish = 0
number_of stopped = 1
number_of bad_subscript = 2

abbrev pub is_going : End → Bool
is_going going = true
is_going finish = false
is_going stopped = false
is_going bad_subscript = false

-- what a walk comes to: its answer, the words that it leaves, and its access list
pub record Walk : Type 0 where
  pub status : ℕ
  pub number : ℕ
  pub steps : ℕ
  pub words : List ℕ
  pub trace : List Access

abbrev pub walked : ℕ → State → Walk
walked steps x = record { status = status_of x.end; number = number_of x.end; steps = steps; words = x.words; trace = x.trace }

-- "A step is one row begun"; "a run stops and says so when it would begin a row past its limit": at most n rows more, k being counted
unfoldable pub walk_from : ℕ → ℕ → List ℕ → State → Walk
walk_from zero k t x = walked k x
walk_from (suc n) k t x = let more = walk_from n (k + 1) t (turn t x) in pick (is_going x.end) more (walked k x)

-- "Both leave the memory untouched and 0 steps"
abbrev pub refused : ℕ → List ℕ → Walk
refused n memory = record { status = n; number = 0; steps = 0; words = memory; trace = [] }

-- the words past the data are not lent to the run
abbrev pub over : List ℕ → Walk → Walk
over past w = record { status = w.status; number = w.number; steps = w.steps; words = w.words ++ past; trace = w.trace }

-- request 2026-01: a table, lent words and a limit. "Refused by number 36 ... Fewer words than its data is then 33"
unfoldable pub walk_of : ℕ → List ℕ → List ℕ → Walk
walk_of limit t memory =
    pick (valid t)
    (pick (ltb (length memory) (data_in t)) (refused 33 memory) (over (drop (data_in t) memory) (walk_from limit 0 t (first t (take (data_in t) memory)))))
    (refused 36 memory)
