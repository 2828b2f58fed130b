-- What name resolution gives of a program: every name that it uses stands for words that were declared so. Definitions, and the array words' one law.
use Rattle.std.specs.Prelude.{◌≡◌, refl, ℕ, ◌+◌, ◌-◌, ◌≤◌, ◌<◌, true, false, List, [], ◌∷◌}
use Rattle.std.proofs.Common.{arith, le-ltb}
use Rattle.x_program.specs.Tree.{Variable, Array, Declaration, words_of, data_words, array_word, Expression, constant, variable, element, monadic, diadic, bracket, Process, skip, stop}
use Rattle.x_program.specs.Tree.{assign, assign_element, braces, conditional, loop, Processes, none, also}

-- a variable is a declared word outside of every array
pub record DeclaredVariable (ds : List Declaration) (v : Variable) : Type 0 where
  pub inside : v.offset < data_words ds
  pub apart : array_word ds v.offset ≡ false

-- an array's words are declared words, all of them an array's; Limits and refusals: "array length, read unsigned, not 1 to 8,192"
pub record DeclaredArray (ds : List Declaration) (a : Array) : Type 0 where
  pub some : 1 ≤ a.length
  pub few : a.length ≤ 8192
  pub inside : a.offset + a.length ≤ data_words ds
  pub own : (i : ℕ) → i < a.length → array_word ds (a.offset + i) ≡ true

-- every name of an expression is declared, every constant is a word
abbrev pub Resolved : List Declaration → Expression → Type 0
Resolved ds (constant w) = w < 4294967296
Resolved ds (variable v) = DeclaredVariable ds v
Resolved ds (element a e) = DeclaredArray ds a × Resolved ds e
Resolved ds (monadic o e) = Resolved ds e
Resolved ds (diadic o e f) = Resolved ds e × Resolved ds f
Resolved ds (bracket e) = Resolved ds e

abbrev mutual
  pub ResolvedProcess : List Declaration → Process → Type 0
  ResolvedProcess ds skip = Unit {0}
  ResolvedProcess ds stop = Unit {0}
  ResolvedProcess ds (assign v e) = DeclaredVariable ds v × Resolved ds e
  ResolvedProcess ds (assign_element a s e) = DeclaredArray ds a × Resolved ds s × Resolved ds e
  ResolvedProcess ds (braces ps) = ResolvedAll ds ps
  ResolvedProcess ds (conditional e p q) = Resolved ds e × ResolvedProcess ds p × ResolvedProcess ds q
  ResolvedProcess ds (loop e p) = Resolved ds e × ResolvedProcess ds p

  pub ResolvedAll : List Declaration → Processes → Type 0
  ResolvedAll ds none = Unit {0}
  ResolvedAll ds (also p ps) = ResolvedProcess ds p × ResolvedAll ds ps

-- no array has a word past the declared ones
pub past_data : (ds : List Declaration) (k : ℕ) → data_words ds ≤ k → array_word ds k ≡ false
unfolding data_words array_word
past_data [] k h = refl
past_data (d ∷ ds) k h = rw (le-ltb k (words_of d) (omega arith)) (past_data ds (k - words_of d) (omega arith))
