-- A resolved program: names replaced by what they stand for, brackets and braces still there, since the source's run makes moves for them. Definitions.
use Rattle.std.specs.Prelude.{ℕ, ◌+◌, ◌-◌, Bool, true, false, List, [], ◌∷◌, ltb}
use Rattle.arm_word.specs.Choice.{pick}

-- The X that we take: "`-` or `not` and an operand"
pub data Monadic : Type 0 where
  negate : Monadic
  invert : Monadic

-- The syntax table: "Diadic from 1: + - * and or xor >> << = <> < <= > >="
pub data Diadic : Type 0 where
  plus : Diadic
  minus : Diadic
  times : Diadic
  bitwise_and : Diadic
  bitwise_or : Diadic
  bitwise_xor : Diadic
  right : Diadic
  left : Diadic
  equal : Diadic
  unequal : Diadic
  less : Diadic
  at_most : Diadic
  greater : Diadic
  at_least : Diadic

-- a declared variable: its row of the syntax table, its word offset in data
pub record Variable : Type 0 where
  pub row : ℕ
  pub offset : ℕ

-- a declared array: its row, the offset of its first word, its length
pub record Array : Type 0 where
  pub row : ℕ
  pub offset : ℕ
  pub length : ℕ

-- Expression and operand; a val's use is its constant; a chain is nested to the right, as grouped
pub data Expression : Type 0 where
  constant : ℕ → Expression
  variable : Variable → Expression
  element : Array → Expression → Expression
  monadic : Monadic → Expression → Expression
  diadic : Diadic → Expression → Expression → Expression
  bracket : Expression → Expression

-- Process; braces hold any number of processes
mutual
  pub data Process : Type 0 where
    skip : Process
    stop : Process
    assign : Variable → Expression → Process
    assign_element : Array → Expression → Expression → Process
    braces : Processes → Process
    conditional : Expression → Process → Process → Process
    loop : Expression → Process → Process

  pub data Processes : Type 0 where
    none : Processes
    also : Process → Processes → Processes

-- what a specification declares in data: one word, or an array of so many; val declares none
pub data Declaration : Type 0 where
  var : Declaration
  array : ℕ → Declaration

pub record Program : Type 0 where
  pub declarations : List Declaration
  pub body : Process

abbrev pub words_of : Declaration → ℕ
words_of var = 1
words_of (array n) = n

-- Limits and refusals: "D is the declared words"
unfoldable pub data_words : List Declaration → ℕ
data_words [] = 0
data_words (d ∷ ds) = words_of d + data_words ds

abbrev pub is_array : Declaration → Bool
is_array var = false
is_array (array n) = true

-- whether data word k lies in an array: "offsets in order of declaration", so the first declaration has the first words
unfoldable pub array_word : List Declaration → ℕ → Bool
array_word [] k = false
array_word (d ∷ ds) k = pick (ltb k (words_of d)) (is_array d) (array_word ds (k - words_of d))
