-- What names stand for: the scope that specifications make, one after another. Definitions; rests on the grammar's trees.
-- `text t` is the bytes of token t: a tree gives a name as the number of its token.
use Rattle.std.specs.Prelude.{List, [], ◌∷◌, ℕ, ◌+◌}
use Rattle.arm_word.specs.Choice.{pick}
pub use Rattle.x_spelling.specs.Words.{same}
use Rattle.x_grammar.specs.Grammar.{Constant, literal, named, Specification, var, val, commented}
use Rattle.x_program.specs.Tree.{Variable, Array}

-- what a name stands for; `unknown` is a name that is not declared
pub data Meaning : Type 0 where
  unknown : Meaning
  variable : Variable → Meaning
  array : Array → Meaning
  constant : ℕ → Meaning

pub record Entry : Type 0 where
  pub name : List ℕ
  pub meaning : Meaning

-- the names declared so far, the latest first; the next row of the syntax table; how many names; the declared words so far
pub record Scope : Type 0 where
  pub entries : List Entry
  pub rows : ℕ
  pub names : ℕ
  pub words : ℕ

abbrev pub empty_scope : Scope
empty_scope = record { entries = []; rows = 0; names = 0; words = 0 }

-- Source document 001: "Two names are the same only if they consist of the same sequence of characters": `same`
-- the latest entry of that name
unfoldable pub lookup : List Entry → List ℕ → Meaning
lookup [] n = unknown
lookup (e ∷ es) n = pick (same e.name n) e.meaning (lookup es n)

abbrev pub added : Scope → List ℕ → Meaning → ℕ → ℕ → Scope
added s n m row words =
    record { entries = record { name = n; meaning = m } ∷ s.entries; rows = s.rows + row; names = s.names + 1; words = s.words + words }

-- the word of a val
abbrev pub word_of : Meaning → ℕ
word_of unknown = 0
word_of (variable v) = 0
word_of (array a) = 0
word_of (constant w) = w

module _ (text : ℕ → List ℕ) where
  abbrev pub meaning_of : Scope → ℕ → Meaning
  meaning_of s n = lookup s.entries (text n)

  -- "c is a number, byte, true, false or an earlier val name": its word
  abbrev pub constant_word : Scope → Constant → ℕ
  constant_word s (literal w) = w
  constant_word s (named n) = word_of (meaning_of s n)

  -- the scope after a specification: "offsets in order of declaration; val makes no row"
  abbrev pub declare : Specification → Scope → Scope
  declare (var n) s = added s (text n) (variable (record { row = s.rows; offset = s.words })) 1 1
  declare (Specification.array n c) s = added s (text n) (array (record { row = s.rows; offset = s.words; length = constant_word s c })) 1 (constant_word s c)
  declare (val n c) s = added s (text n) (constant (constant_word s c)) 0 0
  declare (commented d) s = declare d s

  abbrev pub declare_all : List Specification → Scope → Scope
  declare_all [] s = s
  declare_all (d ∷ ds) s = declare_all ds (declare d s)
