-- Tables by hand and what their walks come to, and tables that 36 refuses: one statement each over a list. Rests on the definition of the table's run.
use Rattle.std.specs.Prelude.{◌≡◌, refl, true, false, List, [], ◌∷◌, ◌++◌, map, ℕ}
use Rattle.arm_word.specs.Word.{signed_less}
use Rattle.arm_word.specs.Access.{Access, loaded, stored}
use Rattle.x_program.specs.Rows.{row}
use Rattle.x_program.specs.ValidTable.{process_shape, shape, data_before, rows_fit, valid}
use Rattle.x_meaning.specs.TableRun.{Walk, settle, begun, walk_from, walk_of}

-- a table, the words that it is run over and the limit
pub record Case : Type 0 where
  pub table : List ℕ
  pub memory : List ℕ
  pub limit : ℕ

abbrev pub case : List ℕ → List ℕ → ℕ → Case
case t m n = record { table = t; memory = m; limit = n }

abbrev pub run_of : Case → Walk
run_of c = walk_of c.limit c.table c.memory

abbrev pub comes_to : ℕ → ℕ → ℕ → List ℕ → List Access → Walk
comes_to status number steps words trace = record { status = status; number = number; steps = steps; words = words; trace = trace }

-- ── tables ──

-- var x; x := 2 + 3
abbrev pub sum : List ℕ
sum = row 1 0 1 0 ++ (row 3 2 0 0 ++ (row 3 3 0 0 ++ (row 7 1 1 2 ++ row 10 0 3 0)))

-- var x; while x do x := x - 1
abbrev pub countdown : List ℕ
countdown = row 1 0 1 0 ++ (row 4 0 0 0 ++ (row 4 0 0 0 ++ (row 3 1 0 0 ++ (row 7 2 2 3 ++ (row 10 0 4 0 ++ row 14 1 5 0)))))

-- x := x + x, both operands by one row
abbrev pub doubled : List ℕ
doubled = row 1 0 1 0 ++ (row 4 0 0 0 ++ (row 7 1 1 1 ++ row 10 0 2 0))

-- a declaration behind a row that nothing uses
abbrev pub late : List ℕ
late = row 8 0 0 0 ++ (row 1 0 1 0 ++ row 8 0 0 0)

-- array a[2]; a[2] := a[0], and a[1] := a[0]
abbrev pub element_assigned : ℕ → List ℕ
element_assigned i = row 2 0 2 0 ++ (row 3 i 0 0 ++ (row 3 0 0 0 ++ (row 5 0 2 0 ++ row 11 0 1 3)))

-- var a; var b; { a := 1; b := 2 }
abbrev pub two_assigned : List ℕ
two_assigned = row 1 0 1 0 ++ (row 1 1 1 0 ++ (row 3 1 0 0 ++ (row 10 0 2 0 ++ (row 3 2 0 0 ++ (row 10 1 4 0 ++ row 12 3 5 0)))))

-- var x; if x then x := 7 else stop
abbrev pub chosen : List ℕ
chosen = row 1 0 1 0 ++ (row 4 0 0 0 ++ (row 3 7 0 0 ++ (row 10 0 2 0 ++ (row 9 0 0 0 ++ row 13 1 3 4))))

-- ── what they come to ──

-- A limit is told of where one row more would be begun, and an end with the limit's last row is an end; a while's row is begun again at each test; a shared row at each use; the check of a
-- subscript needs no row; what was done before the limit stays; words past the data stay; a short memory is refused and stays.
pub walks :
    map run_of
    (case sum (0 ∷ 9 ∷ []) 4 ∷ case sum (0 ∷ 9 ∷ []) 3 ∷ case countdown (2 ∷ []) 100 ∷ case countdown (2 ∷ []) 14 ∷ case countdown (2 ∷ []) 13 ∷ case doubled (21 ∷ []) 4
    ∷ case late (5 ∷ []) 1 ∷ case late (5 ∷ []) 0 ∷ case (element_assigned 2) (8 ∷ 9 ∷ []) 2 ∷ case (element_assigned 1) (8 ∷ 9 ∷ []) 9 ∷ case two_assigned (0 ∷ 0 ∷ []) 3
    ∷ case chosen (5 ∷ []) 9 ∷ case chosen (0 ∷ []) 9 ∷ case two_assigned (6 ∷ []) 9 ∷ case (row 3 0 0 0) (6 ∷ []) 9 ∷ [])
    ≡ comes_to 1 0 4 (5 ∷ 9 ∷ []) [] ∷ comes_to 0 0 3 (0 ∷ 9 ∷ []) [] ∷ comes_to 1 0 14 (0 ∷ []) [] ∷ comes_to 1 0 14 (0 ∷ []) [] ∷ comes_to 0 0 13 (0 ∷ []) [] ∷ comes_to 1 0 4 (42 ∷ []) []
    ∷ comes_to 1 0 1 (5 ∷ []) [] ∷ comes_to 0 0 0 (5 ∷ []) [] ∷ comes_to 1 2 2 (8 ∷ 9 ∷ []) [] ∷ comes_to 1 0 4 (8 ∷ 8 ∷ []) (loaded 0 8 ∷ stored 1 9 8 ∷ []) ∷ comes_to 0 0 3 (1 ∷ 0 ∷ []) []
    ∷ comes_to 1 0 4 (7 ∷ []) [] ∷ comes_to 1 1 3 (0 ∷ []) [] ∷ comes_to 33 0 0 (6 ∷ []) [] ∷ comes_to 36 0 0 (6 ∷ []) [] ∷ []
unfolding signed_less process_shape shape data_before rows_fit valid settle begun walk_from walk_of
walks = refl

-- ── what 36 refuses ──

-- an unknown kind (15, and 0 of a zeroed rest); a reference to the row itself, to a later row, to a row of another kind (a body that is a value, a variable that is an array); an operator 0
-- or 3 or 15; an offset that leaves a word out; a length 0 or 8,193, or 2 of a var; an unused word; data above 8,192 words; a part row; a last row that is missing or no process
pub refused_tables :
    map valid
    (row 15 0 0 0 ∷ (row 8 0 0 0 ++ row 0 0 0 0) ∷ (row 3 1 0 0 ++ row 14 0 1 0) ∷ (row 3 1 0 0 ++ (row 14 0 2 0 ++ row 8 0 0 0)) ∷ (row 3 1 0 0 ++ row 14 0 0 0)
    ∷ (row 2 0 1 0 ++ (row 3 1 0 0 ++ row 10 0 1 0)) ∷ (row 1 0 1 0 ++ (row 3 1 0 0 ++ (row 6 0 1 0 ++ row 10 0 2 0))) ∷ (row 1 0 1 0 ++ (row 3 1 0 0 ++ (row 6 3 1 0 ++ row 10 0 2 0)))
    ∷ (row 1 0 1 0 ++ (row 3 1 0 0 ++ (row 7 15 1 1 ++ row 10 0 2 0))) ∷ (row 1 0 1 0 ++ (row 1 2 1 0 ++ row 8 0 0 0)) ∷ (row 2 0 0 0 ++ row 8 0 0 0) ∷ (row 2 0 8193 0 ++ row 8 0 0 0)
    ∷ (row 1 0 2 0 ++ row 8 0 0 0) ∷ row 8 0 0 1 ∷ (row 2 0 8192 0 ++ (row 1 8192 1 0 ++ row 8 0 0 0)) ∷ (row 8 0 0 0 ++ 8 ∷ 0 ∷ []) ∷ [] ∷ row 3 1 0 0 ∷ [])
    ≡ false ∷ false ∷ false ∷ false ∷ false ∷ false ∷ false ∷ false ∷ false ∷ false ∷ false ∷ false ∷ false ∷ false ∷ false ∷ false ∷ false ∷ false ∷ []
unfolding process_shape shape data_before rows_fit valid
refused_tables = refl

-- ── what it takes ──

-- the tables above; two arrays of 4,096 words; a sequence grouped to the left; a row that is used twice
pub taken_tables :
    map valid
    (sum ∷ countdown ∷ doubled ∷ late ∷ element_assigned 2 ∷ two_assigned ∷ chosen ∷ (row 2 0 4096 0 ++ (row 2 4096 4096 0 ++ row 8 0 0 0))
    ∷ (row 8 0 0 0 ++ (row 12 0 0 0 ++ row 12 1 0 0)) ∷ [])
    ≡ true ∷ true ∷ true ∷ true ∷ true ∷ true ∷ true ∷ true ∷ true ∷ []
unfolding process_shape shape data_before rows_fit valid
taken_tables = refl
