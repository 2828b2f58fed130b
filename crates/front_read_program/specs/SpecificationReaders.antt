-- What the readers of specifications promise: from every state at the front, the run comes to the state after them. Definitions.
use Rattle.std.specs.Prelude.{◌≡◌, List, ◌∷◌, ℕ, ◌+◌, ◌<◌, ◌≤◌, eqb, length, get_or, Result, Ok, Err}
use Rattle.arm_word.specs.Choice.{pick}
use Rattle.x_spelling.specs.Kinds as kind
use Rattle.x_grammar.specs.Grammar.{Specification}
use Rattle.x_grammar.specs.Automaton.{top, in_comments, comments_before, at_front, need_process, refused, run}
use Rattle.x_grammar.specs.TokenArrays.{unread}
use Rattle.x_grammar.specs.RawRows.{declared_by, declared_rows}
use Rattle.front_read_expressions.specs.declared.Ungrammatical.{Ungrammatical}
use Rattle.front_read_program.specs.declared.Specified.{Specified}
use Rattle.front_read_program.specs.declared.Front.{Front}

-- a specification and its `;`, from token i to j, which declares d rows
pub record Specifies (kinds values : List ℕ) (i j d : ℕ) : Type 0 where
  pub tree : Specification
  pub short : j ≤ length kinds
  pub far : i + d < j
  pub declares : declared_by tree ≡ d
  pub comes : (b : List Specification) (c : ℕ) → run (unread kinds values i) (at_front b c) ≡ run (unread kinds values j) (at_front (comments_before c tree ∷ b) 0)

-- the run is refused with the tokens from x on unread
pub record Stops (kinds values : List ℕ) (i x : ℕ) : Type 0 where
  pub inside : x ≤ length kinds
  pub stops : (b : List Specification) (c : ℕ) → run (unread kinds values i) (at_front b c) ≡ refused (unread kinds values x)

abbrev pub ReadsSpecification : List ℕ → List ℕ → ℕ → Result Specified Ungrammatical → Type 0
ReadsSpecification kinds values i (Ok s) = Specifies kinds values i s.next s.rows
ReadsSpecification kinds values i (Err x) = Stops kinds values i x.token

-- the `;` at j
abbrev pub ended : List ℕ → ℕ → ℕ → Result Specified Ungrammatical
ended kinds j d = pick (eqb (get_or kinds j 0) kind.semicolon) (Ok (record { next = j + 1; rows = d })) (Err (record { token = j }))

-- from the front with n rows declared and c comments read, up to the process at j: m rows are declared, and the tokens from s on are comments
pub record Arrives (kinds values : List ℕ) (i n s j m : ℕ) (b : List Specification) (c : ℕ) : Type 0 where
  pub specifications : List Specification
  pub comments : ℕ
  pub comes : run (unread kinds values i) (at_front b c) ≡ run (unread kinds values j) (need_process (in_comments comments (top specifications)))
  pub declared : n + declared_rows specifications ≡ m + declared_rows b
  pub placed : s + comments ≡ j

pub record Fronts (kinds values : List ℕ) (i n start s j m : ℕ) : Type 0 where
  pub short : j ≤ length kinds
  pub few : m + i ≤ n + j
  pub arrives : (b : List Specification) (c : ℕ) → start + c ≡ i → Arrives kinds values i n s j m b c

abbrev pub ReadsFront : List ℕ → List ℕ → ℕ → ℕ → ℕ → Result Front Ungrammatical → Type 0
ReadsFront kinds values i n start (Ok f) = Fronts kinds values i n start f.start f.process f.rows
ReadsFront kinds values i n start (Err x) = Stops kinds values i x.token
