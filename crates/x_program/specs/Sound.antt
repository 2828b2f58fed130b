-- What the front end sees to in a resolved program: every variable and array in its tree is one of its declarations. Definitions and laws; assumes nothing.
use Rattle.std.specs.Prelude.{◌≡◌, List, [], ◌∷◌, ℕ, suc, ◌+◌, ◌-◌, ◌≤◌, ◌<◌, length}
use Rattle.std.proofs.Common.{arith, lt-ltb, le-ltb}
use Rattle.x_program.specs.Tree.{Variable, Array, Declaration, var, array, Program, words_of, data_words, is_array, array_word}
use Rattle.x_program.specs.Core.{Expression, constant, variable, element, monadic, diadic, Process, skip, stop, assign, assign_element, sequence, conditional, loop, core_process}
use Rattle.x_program.specs.ProgramDepth.{deepest}

-- among the declarations, the one with this row number has this offset: "offsets in order of declaration"
pub data Declares : List Declaration → ℕ → ℕ → Declaration → Type 0 where
  here : {d : Declaration} {ds : List Declaration} → Declares (d ∷ ds) 0 0 d
  later : {d e : Declaration} {ds : List Declaration} {r o : ℕ} → Declares ds r o d → Declares (e ∷ ds) (suc r) (words_of e + o) d

abbrev pub IsVariable : List Declaration → Variable → Type 0
IsVariable ds v = Declares ds v.row v.offset var

abbrev pub IsArray : List Declaration → Array → Type 0
IsArray ds a = Declares ds a.row a.offset (array a.length)

-- "array length, read unsigned, not 1 to 8,192" is refused
abbrev pub Lengths : List Declaration → Type 0
Lengths [] = Unit {0}
Lengths (var ∷ ds) = Lengths ds
Lengths (array n ∷ ds) = (0 < n) × (n ≤ 8192) × Lengths ds

abbrev pub SoundExpression : List Declaration → Expression → Type 0
SoundExpression ds (constant w) = w < 4294967296
SoundExpression ds (variable v) = IsVariable ds v
SoundExpression ds (element a e) = IsArray ds a × SoundExpression ds e
SoundExpression ds (monadic o e) = SoundExpression ds e
SoundExpression ds (diadic o e f) = SoundExpression ds e × SoundExpression ds f

abbrev pub SoundProcess : List Declaration → Process → Type 0
SoundProcess ds skip = Unit {0}
SoundProcess ds stop = Unit {0}
SoundProcess ds (assign v e) = IsVariable ds v × SoundExpression ds e
SoundProcess ds (assign_element a s e) = IsArray ds a × SoundExpression ds s × SoundExpression ds e
SoundProcess ds (sequence p q) = SoundProcess ds p × SoundProcess ds q
SoundProcess ds (conditional e p q) = SoundExpression ds e × SoundProcess ds p × SoundProcess ds q
SoundProcess ds (loop e p) = SoundExpression ds e × SoundProcess ds p

-- a program that is accepted
pub record Sound (p : Program) : Type 0 where
  pub lengths : Lengths p.declarations
  pub small : data_words p.declarations ≤ 8192
  pub names : length p.declarations ≤ 256
  pub shallow : deepest p.body ≤ 32
  pub body : SoundProcess p.declarations (core_process p.body)

-- ── laws ──

-- a declaration's words lie in data
pub declared_inside : {ds : List Declaration} {r o : ℕ} {d : Declaration} → Declares ds r o d → o + words_of d ≤ data_words ds
unfolding data_words
declared_inside here = omega arith
declared_inside (later h) = omega (arith, declared_inside h)

pub declared_row : {ds : List Declaration} {r o : ℕ} {d : Declaration} → Declares ds r o d → r < length ds
declared_row here = omega arith
declared_row (later h) = omega (arith, declared_row h)

-- its words are an array's exactly if it is an array
pub declared_array : {ds : List Declaration} {r o : ℕ} {d : Declaration} (i : ℕ) → i < words_of d → Declares ds r o d → array_word ds (o + i) ≡ is_array d
unfolding array_word
declared_array {d = d} i h (here {ds = ds}) = let z : 0 + i ≡ i = omega arith in rw (z, lt-ltb i (words_of d) h)
declared_array i h (later {e = e} {o = o} q) =
    let z : words_of e + o + i - words_of e ≡ o + i = omega arith in
    rw (le-ltb (words_of e + o + i) (words_of e) (omega arith), z) (declared_array i h q)

-- an array's length is 1 to 8,192
IsLength : Declaration → Type 0
IsLength var = Unit {0}
IsLength (array n) = (0 < n) × (n ≤ 8192)

declared_length : {ds : List Declaration} {r o : ℕ} {d : Declaration} → Lengths ds → Declares ds r o d → IsLength d
unfolding IsLength
declared_length {d = var} l h = tt
declared_length {d = array n} l (here {ds = ds}) = (l.0, l.1)
declared_length l (later {e = var} h) = declared_length l h
declared_length l (later {e = array m} h) = declared_length l.2 h

pub length_of : {ds : List Declaration} {r o n : ℕ} → Lengths ds → Declares ds r o (array n) → (0 < n) × (n ≤ 8192)
unfolding IsLength
length_of l h = declared_length l h
