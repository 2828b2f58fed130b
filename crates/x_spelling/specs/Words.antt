-- Reserved words, and what a name's bytes stand for. Definitions.
-- Rests on Kinds, and on choice by a test, quoted texts and truth values of crate `arm_word`.
use Rattle.std.specs.Prelude.{Bool, true, false, List, [], ◌∷◌, ℕ, eqb, length, Option, None, Some}
use Prim.Native.String.{String}
use Rattle.arm_word.specs.Ascii.{ascii}
use Rattle.arm_word.specs.Choice.{pick}
use Rattle.arm_word.specs.Word.{truth}
use Rattle.x_spelling.specs.Kinds as kinds
use Rattle.x_spelling.specs.declared.Word.{Word}

-- two byte strings are the same
unfoldable pub same : List ℕ → List ℕ → Bool
same [] [] = true
same [] (y ∷ ys) = false
same (x ∷ xs) [] = false
same (x ∷ xs) (y ∷ ys) = pick (eqb x y) (same xs ys) false

-- a kind of token and its value
abbrev pub is : ℕ → ℕ → Word
is k v = record { kind = k; value = v }

-- ── the table ──

-- a reserved word: its bytes, and the token that they make
pub record Entry : Type 0 where
  pub bytes : List ℕ
  pub token : Word

-- one of these bytes and this token
abbrev pub entry : List ℕ → Word → Entry
entry bytes token = record { bytes = bytes; token = token }

-- one by its text, its kind and its value
abbrev pub row : String → ℕ → ℕ → Entry
row text kind value = entry (ascii text) (is kind value)

-- "Reserved: and array do else false func if is not or proc return skip stop then true val valof var while xor";
-- `true` and `false` are numbers, with the words that What a program means gives them
unfoldable pub reserved : List Entry
reserved =
    row "and" kinds.and 0
    ∷ row "array" kinds.array 0
    ∷ row "do" kinds.do_word 0
    ∷ row "else" kinds.else 0
    ∷ row "false" kinds.number (truth false)
    ∷ row "func" kinds.func 0
    ∷ row "if" kinds.if 0
    ∷ row "is" kinds.is 0
    ∷ row "not" kinds.not 0
    ∷ row "or" kinds.or 0
    ∷ row "proc" kinds.proc 0
    ∷ row "return" kinds.return 0
    ∷ row "skip" kinds.skip 0
    ∷ row "stop" kinds.stop 0
    ∷ row "then" kinds.then 0
    ∷ row "true" kinds.number (truth true)
    ∷ row "val" kinds.val 0
    ∷ row "valof" kinds.valof 0
    ∷ row "var" kinds.var 0
    ∷ row "while" kinds.while 0
    ∷ row "xor" kinds.xor 0
    ∷ []

-- ── what a name stands for ──

-- the first of a list of reserved words that a name is the same as
unfoldable pub first_match : List Entry → List ℕ → Option Word
first_match [] w = None
first_match (e ∷ es) w = pick (same w e.bytes) (Some e.token) (first_match es w)

-- the token of what was found: a reserved word's, else a name with its length
abbrev pub token_of : List ℕ → Option Word → Word
token_of w (Some t) = t
token_of w None = is kinds.name (length w)

-- what a name's bytes stand for: the first match in the table, else a name
abbrev pub word : List ℕ → Word
word w = token_of w (first_match reserved w)
