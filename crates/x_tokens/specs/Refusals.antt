-- The refusals of a translation, by number. Definitions: document 01, "Limits and refusals".
use Rattle.std.specs.Prelude.{ℕ}
use Rattle.x_tokens.specs.declared.refusal.Reason.{Reason}
use Rattle.x_tokens.specs.declared.refusal.Reason.TheVariants.{LongSource, BrokenToken, LargeNumber, LongName, ManyTokens, Ungrammatical, DeepProgram}
use Rattle.x_tokens.specs.declared.refusal.Reason.TheVariants.{NotDeclared, DeclaredTwice, WrongKind, BadLength, TooMuch, ShortTable, ShortCode}

-- "source above 16,384 bytes"
abbrev pub long_source : ℕ
long_source = 1

-- "broken token or byte that starts none"
abbrev pub broken_token : ℕ
broken_token = 2

-- "decimal above 2,147,483,647 or hex above FFFFFFFF"
abbrev pub large_number : ℕ
large_number = 3

-- "name above 32 bytes"
abbrev pub long_name : ℕ
long_name = 4

-- "more than 1,024 tokens, comments counted"
abbrev pub many_tokens : ℕ
many_tokens = 5

-- "grammar: first token that no program continues with"
abbrev pub ungrammatical : ℕ
ungrammatical = 6

-- "depth of an expression, assigned element or process above 32"
abbrev pub deep_program : ℕ
deep_program = 7

-- "name not declared before"
abbrev pub not_declared : ℕ
not_declared = 8

-- "name declared twice"
abbrev pub declared_twice : ℕ
declared_twice = 9

-- "wrong kind: array without subscript, val assigned, subscript on a var or val, non-val in a constant"
abbrev pub wrong_kind : ℕ
wrong_kind = 10

-- "array length, read unsigned, not 1 to 8,192"
abbrev pub bad_length : ℕ
bad_length = 11

-- "more than 256 names, or data above 8,192 words"
abbrev pub too_much : ℕ
too_much = 12

-- "table shorter than 4 x tokens words"
abbrev pub short_table : ℕ
short_table = 13

-- "code buffer shorter than 48 x tokens + 256 bytes"
abbrev pub short_code : ℕ
short_code = 14

-- the number of the code's reason
abbrev pub number : Reason → ℕ
number LongSource = long_source
number BrokenToken = broken_token
number LargeNumber = large_number
number LongName = long_name
number ManyTokens = many_tokens
number Ungrammatical = ungrammatical
number DeepProgram = deep_program
number NotDeclared = not_declared
number DeclaredTwice = declared_twice
number WrongKind = wrong_kind
number BadLength = bad_length
number TooMuch = too_much
number ShortTable = short_table
number ShortCode = short_code
