-- The source's run: its state and its moves, one clause a move, in document 01's order. Definitions.
-- Document 01's to-do list is the continuation here, its pile the operand stack, its access list the trace.
use Rattle.std.specs.Prelude.{ℕ, zero, suc, ◌+◌, Bool, false, List, [], ◌∷◌, ◌++◌, get_or, set, take, ltb, eqb}
use Rattle.arm_word.specs.Choice.{pick}
use Rattle.arm_word.specs.Access.{Access, loaded, stored}
use Rattle.x_program.specs.Tree.{Monadic, Diadic, Variable, Array, Expression, constant, variable, element, monadic, diadic, bracket, Process, skip, stop, assign, assign_element, braces}
use Rattle.x_program.specs.Tree.{conditional, loop, Processes, none, also, Program, data_words}
use Rattle.x_meaning.specs.Operators.{work_monadic, work_diadic}

-- a thing to do
pub data Item : Type 0 where
  evaluate : Expression → Item
  work₁ : Monadic → Item
  work₂ : Diadic → Item
  check : Array → Item
  load : Array → Item
  execute : Process → Item
  set_variable : Variable → Item
  store : Array → Item
  choose : Process → Process → Item
  repeat : Expression → Process → Item

-- how a run ended, if it has
pub data End : Type 0 where
  going : End
  finish : End
  stopped : End
  bad_subscript : End

-- "Its state: the D words, an access list, a to-do list, a pile of words, an end"
pub record State : Type 0 where
  pub words : List ℕ
  pub trace : List Access
  pub continuation : List Item
  pub stack : List ℕ
  pub end : End

abbrev pub state : List ℕ → List Access → List Item → List ℕ → End → State
state w t c s e = record { words = w; trace = t; continuation = c; stack = s; end = e }

-- the word on top of the stack, and the stack without it
abbrev pub top : List ℕ → ℕ
top [] = 0
top (w ∷ s) = w

abbrev pub rest : List ℕ → List ℕ
rest [] = []
rest (w ∷ s) = s

-- "braces: their processes in order"
abbrev pub in_order : Processes → List Item → List Item
in_order none c = c
in_order (also p ps) c = execute p ∷ in_order ps c

-- "constant or name: nothing, and its word goes on the pile; `( e )`: e; operation: its operands, left first, then the working; `v[e]`: e, check, load"
abbrev pub move_expression : Expression → List ℕ → List Access → List Item → List ℕ → State
move_expression (constant w) d t c s = state d t c (w ∷ s) going
move_expression (variable v) d t c s = state d t c (get_or d v.offset 0 ∷ s) going
move_expression (bracket e) d t c s = state d t (evaluate e ∷ c) s going
move_expression (monadic o e) d t c s = state d t (evaluate e ∷ work₁ o ∷ c) s going
move_expression (diadic o e f) d t c s = state d t (evaluate e ∷ evaluate f ∷ work₂ o ∷ c) s going
move_expression (element a e) d t c s = state d t (evaluate e ∷ check a ∷ load a ∷ c) s going

-- "`n := e`: e, set; `v[s] := x`: s, check, x, store; braces: their processes in order; `if`: e, choose; `while`: e, choose between the body with the `while` again, and nothing"; "`skip`
-- does nothing. `stop` ends as stop"
abbrev pub move_process : Process → List ℕ → List Access → List Item → List ℕ → State
move_process (assign v e) d t c s = state d t (evaluate e ∷ set_variable v ∷ c) s going
move_process (assign_element a e f) d t c s = state d t (evaluate e ∷ check a ∷ evaluate f ∷ store a ∷ c) s going
move_process (braces ps) d t c s = state d t (in_order ps c) s going
move_process (conditional e p q) d t c s = state d t (evaluate e ∷ choose p q ∷ c) s going
move_process (loop e p) d t c s = state d t (evaluate e ∷ repeat e p ∷ c) s going
move_process skip d t c s = state d t c s going
move_process stop d t c s = state d t c s stopped

-- "Working, load, set, store and choice take their words off the pile, working and load put the result on, load and store are listed. A check only looks"; "A condition holds if its word is not 0"
abbrev pub move_item : Item → List ℕ → List Access → List Item → List ℕ → State
move_item (evaluate e) d t c s = move_expression e d t c s
move_item (work₁ o) d t c s = state d t c (work_monadic o (top s) ∷ rest s) going
move_item (work₂ o) d t c s = state d t c (work_diadic o (top (rest s)) (top s) ∷ rest (rest s)) going
move_item (check a) d t c s = state d t c s (pick (ltb (top s) a.length) going bad_subscript)
move_item (load a) d t c s =
    state d (t ++ loaded (a.offset + top s) (get_or d (a.offset + top s) 0) ∷ []) c (get_or d (a.offset + top s) 0 ∷ rest s) going
move_item (execute p) d t c s = move_process p d t c s
move_item (set_variable v) d t c s = state (set d v.offset (top s)) t c (rest s) going
move_item (store a) d t c s =
    state (set d (a.offset + top (rest s)) (top s))
    (t ++ stored (a.offset + top (rest s)) (get_or d (a.offset + top (rest s)) 0) (top s) ∷ []) c (rest (rest s)) going
move_item (choose p q) d t c s = state d t (pick (eqb (top s) 0) (execute q) (execute p) ∷ c) (rest s) going
move_item (repeat e p) d t c s = state d t (pick (eqb (top s) 0) c (execute p ∷ execute (loop e p) ∷ c)) (rest s) going

-- "A move takes off the first thing to do and puts in its place ..."; "nothing left to do as finish. After an end nothing changes"
abbrev pub move_going : List ℕ → List Access → List Item → List ℕ → State
move_going d t [] s = state d t [] s finish
move_going d t (i ∷ c) s = move_item i d t c s

abbrev pub move_by : End → State → State
move_by going x = move_going x.words x.trace x.continuation x.stack
move_by finish x = x
move_by stopped x = x
move_by bad_subscript x = x

abbrev pub move : State → State
move x = move_by x.end x

-- "A point of the source's run is a number of moves"
abbrev pub moves : ℕ → State → State
moves zero x = x
moves (suc n) x = moves n (move x)

-- "At first the D words hold their starting values, the process is to do, access list and pile are empty, no end"
abbrev pub begin : Program → List ℕ → State
begin p memory = state (take (data_words p.declarations) memory) [] (execute p.body ∷ []) [] going

-- The image: "SVC 0 is finish, SVC 1 stop, SVC 2 bad subscript"
abbrev pub ends_with : End → ℕ → Bool
ends_with going n = false
ends_with finish n = eqb n 0
ends_with stopped n = eqb n 1
ends_with bad_subscript n = eqb n 2
