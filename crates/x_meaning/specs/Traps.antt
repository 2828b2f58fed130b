-- Document 01's traps that concern what a program means, and others near them, as small programs run to their end: one statement over a list.
-- Rests on the definition of the source's run.
use Rattle.std.specs.Prelude.{◌≡◌, refl, List, [], ◌∷◌, map, ℕ}
use Rattle.arm_word.specs.Word.{signed_less}
use Rattle.arm_word.specs.Access.{Access, loaded, stored}
use Rattle.x_program.specs.Tree.{plus, less, equal, bitwise_and, Variable, Array, var, array, constant, variable, element, diadic, bracket, Process, skip, stop, assign, assign_element, braces}
use Rattle.x_program.specs.Tree.{conditional, loop, none, also, Program, data_words}
use Rattle.x_meaning.specs.SourceRun.{End, finish, stopped, bad_subscript, State, begin, moves}

-- var i; var n; var x; array v[2]
abbrev pub i : Variable
i = record { row = 0; offset = 0 }

abbrev pub n : Variable
n = record { row = 1; offset = 1 }

abbrev pub x : Variable
x = record { row = 2; offset = 2 }

abbrev pub v : Array
v = record { row = 3; offset = 3; length = 2 }

abbrev pub program : Process → Program
program p = record { declarations = var ∷ var ∷ var ∷ array 2 ∷ []; body = p }

-- a body and the five words that it starts with
pub record Case : Type 0 where
  pub body : Process
  pub words : List ℕ

abbrev pub case : Process → List ℕ → Case
case p w = record { body = p; words = w }

-- what is left of it after sixty moves
pub record Left : Type 0 where
  pub words : List ℕ
  pub trace : List Access
  pub end : End

abbrev pub left : List ℕ → List Access → End → Left
left w t e = record { words = w; trace = t; end = e }

abbrev pub left_of : State → Left
left_of s = left s.words s.trace s.end

abbrev pub run_of : Case → Left
run_of c = left_of (moves 60 (begin (program c.body) c.words))

-- if i < n then x := v[i] else skip
abbrev pub guarded : Process
guarded = conditional (diadic less (variable i) (variable n)) (assign x (element v (variable i))) skip

-- if (i < n) and (v[i] = 0) then x := 1 else x := 2
abbrev pub both : Process
both = conditional (diadic bitwise_and (bracket (diadic less (variable i) (variable n))) (bracket (diadic equal (element v (variable i)) (constant 0)))) (assign x (constant 1)) (assign x (constant 2))

-- v[i] := v[0]
abbrev pub copied : Process
copied = assign_element v (variable i) (element v (constant 0))

-- while i < n do { v[i] := i; i := i + 1 }
abbrev pub counted : Process
counted = loop (diadic less (variable i) (variable n)) (braces (also (assign_element v (variable i) (variable i)) (also (assign i (diadic plus (variable i) (constant 1))) none)))

-- { x := 1; stop; x := 2 }
abbrev pub halted : Process
halted = braces (also (assign x (constant 1)) (also stop (also (assign x (constant 2)) none)))

-- the load is behind its test; the right operand of `and` is worked out though the left one is false; a bad subscript ends the run before the
-- value to be stored is worked out, and a good one comes before it; a `while` goes on until its condition fails or a subscript does; nothing follows a stop
pub traps :
    map run_of
    (case guarded (5 ∷ 2 ∷ 7 ∷ 8 ∷ 9 ∷ []) ∷ case guarded (1 ∷ 2 ∷ 7 ∷ 8 ∷ 9 ∷ []) ∷ case both (1 ∷ 0 ∷ 7 ∷ 8 ∷ 0 ∷ []) ∷ case both (2 ∷ 0 ∷ 7 ∷ 8 ∷ 0 ∷ [])
    ∷ case copied (2 ∷ 0 ∷ 7 ∷ 8 ∷ 9 ∷ []) ∷ case copied (1 ∷ 0 ∷ 7 ∷ 8 ∷ 9 ∷ [])
    ∷ case counted (1 ∷ 2 ∷ 7 ∷ 8 ∷ 9 ∷ []) ∷ case counted (1 ∷ 9 ∷ 7 ∷ 8 ∷ 9 ∷ []) ∷ case halted (5 ∷ 2 ∷ 7 ∷ 8 ∷ 9 ∷ []) ∷ [])
    ≡ left (5 ∷ 2 ∷ 7 ∷ 8 ∷ 9 ∷ []) [] finish ∷ left (1 ∷ 2 ∷ 9 ∷ 8 ∷ 9 ∷ []) (loaded 4 9 ∷ []) finish ∷ left (1 ∷ 0 ∷ 2 ∷ 8 ∷ 0 ∷ []) (loaded 4 0 ∷ []) finish
    ∷ left (2 ∷ 0 ∷ 7 ∷ 8 ∷ 0 ∷ []) [] bad_subscript
    ∷ left (2 ∷ 0 ∷ 7 ∷ 8 ∷ 9 ∷ []) [] bad_subscript ∷ left (1 ∷ 0 ∷ 7 ∷ 8 ∷ 8 ∷ []) (loaded 3 8 ∷ stored 4 9 8 ∷ []) finish ∷ left (2 ∷ 2 ∷ 7 ∷ 8 ∷ 1 ∷ []) (stored 4 9 1 ∷ []) finish
    ∷ left (2 ∷ 9 ∷ 7 ∷ 8 ∷ 1 ∷ []) (stored 4 9 1 ∷ []) bad_subscript ∷ left (5 ∷ 2 ∷ 1 ∷ 8 ∷ 9 ∷ []) [] stopped ∷ []
unfolding signed_less data_words
traps = refl
