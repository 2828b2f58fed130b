-- What a reader's answer and its table say: from every state of the automaton that needs the part, the run comes to the state that has it, and the part's rows are written. Definitions.
-- Rests on the grammar's automaton, rows and depth.
use Rattle.std.specs.Prelude.{◌≡◌, List, ℕ, ◌+◌, ◌-◌, ◌*◌, ◌<◌, ◌≤◌, max, length, get_or, eqb, Result, Ok, Err}
use Rattle.std.proofs.lemmas.List.Edits.{sets}
use Rattle.arm_word.specs.Choice.{pick}
use Rattle.x_grammar.specs.Grammar.{Expression, Chain, Operand}
use Rattle.x_grammar.specs.Automaton.{ExpressionContext, OperandContext, ChainContext, next, chain_base, chain_built, State, need_expression, need_operand, have_operand, have_expression, refused, run}
use Rattle.x_grammar.specs.TokenArrays.{unread}
use Rattle.x_grammar.specs.RawRows.{row, count_expression, count_chain, count_operand, rows_expression, rows_chain, rows_operand}
use Rattle.x_grammar.specs.TreeDepth.{depth_expression, depth_chain, depth_operand}
use Rattle.x_program.specs.Layout.{row_words}
use Rattle.front_read_expressions.specs.declared.Extent.{Extent}
use Rattle.front_read_expressions.specs.declared.Ungrammatical.{Ungrammatical}

-- what a reader answers: how far the part goes, or the token that no program continues with
abbrev pub Read : Type 0
Read = Result Extent Ungrammatical

abbrev pub done : ℕ → ℕ → ℕ → ℕ → Read
done j m p d = Ok (record { next = j; rows = m; depth = p; deepest = d })

abbrev pub bad : ℕ → Read
bad i = Err (record { token = i })

-- a form of part: its trees with their rows and depths, and the states that need such a part and that have it
pub record Form : Type 1 where
  pub Tree : Type 0
  pub count : Tree → ℕ
  pub rows : Tree → ℕ → List ℕ
  pub depth : Tree → ℕ
  pub deepest : Tree → ℕ
  pub Context : Type 0
  pub need : Context → State
  pub have : Tree → Context → State

-- tokens were read from i on and rows written from n on: at least one of each, no more rows than tokens, and no more depth than tokens
pub record Went (kinds : List ℕ) (i n : ℕ) (p : Extent) : Type 0 where
  pub short : p.next ≤ length kinds
  pub grew : n < p.rows
  pub few : p.rows + i ≤ n + p.next
  pub shallow : p.depth + i ≤ p.next
  pub low : p.deepest + i ≤ p.next

-- a part that was read from i on, its rows from n on
pub record Part (F : Form) (kinds values : List ℕ) (i n : ℕ) (p : Extent) (t t' : List ℕ) : Type 0 where
  pub tree : F.Tree
  pub counted : n + F.count tree ≡ p.rows
  pub table : t' ≡ sets t (row_words * n) (F.rows tree n)
  pub depths : p.depth ≡ F.depth tree
  pub deepests : p.deepest ≡ F.deepest tree
  pub comes : (k : F.Context) → run (unread kinds values i) (F.need k) ≡ run (unread kinds values p.next) (F.have tree k)

-- where the reader stands
abbrev pub Moved : List ℕ → ℕ → ℕ → Read → Type 0
Moved kinds i n (Ok p) = Went kinds i n p
Moved kinds i n (Err x) = x.token ≤ length kinds

-- and what it found: a part, or that the run is refused with the tokens from x on unread
abbrev pub Found : Form → List ℕ → List ℕ → ℕ → ℕ → List ℕ → Read → List ℕ → Type 0
Found F kinds values i n t (Ok p) t' = Part F kinds values i n p t t'
Found F kinds values i n t (Err x) t' = (k : F.Context) → run (unread kinds values i) (F.need k) ≡ refused (unread kinds values x.token)

abbrev pub Reads : Form → List ℕ → List ℕ → ℕ → ℕ → List ℕ → Read → List ℕ → Type 0
Reads F kinds values i n t r t' = Moved kinds i n r × Found F kinds values i n t r t'

abbrev pub operand_form : Form
operand_form = record { Tree = Operand; count = count_operand; rows = rows_operand; depth = λ a. 0; deepest = depth_operand; Context = OperandContext; need = need_operand; have = have_operand }

abbrev pub expression_form : Form
expression_form = record {
  Tree = Expression;
  count = count_expression;
  rows = rows_expression;
  depth = λ e. 0;
  deepest = depth_expression;
  Context = ExpressionContext;
  need = need_expression;
  have = have_expression;
}

-- the operands after an operator o
abbrev pub chain_form : ℕ → Form
chain_form o = record {
  Tree = Chain;
  count = count_chain;
  rows = λ c n. rows_chain c o n;
  depth = λ c. 0;
  deepest = depth_chain;
  Context = ChainContext;
  need = λ k. need_operand (next o k);
  have = λ c k. have_expression (chain_built k o c) (chain_base k);
}

-- the closing token of kind k after what was read
abbrev pub closed : List ℕ → ℕ → Read → Read
closed kinds k (Ok p) = pick (eqb (get_or kinds p.next 0) k) (done (p.next + 1) p.rows p.depth p.deepest) (bad p.next)
closed kinds k (Err x) = Err x

-- an earlier part had depths a and b, and the whole adds x and y to the deepest part
abbrev pub deepened_extent : Extent → ℕ → ℕ → ℕ → ℕ → Extent
deepened_extent p a b x y = record { next = p.next; rows = p.rows; depth = max a p.depth + x; deepest = max b p.deepest + y }

abbrev pub deepened : Read → ℕ → ℕ → ℕ → ℕ → Read
deepened (Ok p) a b x y = Ok (deepened_extent p a b x y)
deepened (Err k) a b x y = Err k

-- one row more after what was read, which is made from the number of rows
abbrev pub one_row_more : Extent → Extent
one_row_more p = record { next = p.next; rows = p.rows + 1; depth = p.depth; deepest = p.deepest }

abbrev pub counted_row : Read → Read
counted_row (Ok p) = Ok (one_row_more p)
counted_row (Err x) = Err x

abbrev pub tabled : List ℕ → Read → (ℕ → List ℕ) → List ℕ
tabled t (Ok p) f = sets t (row_words * p.rows) (f p.rows)
tabled t (Err x) f = t

-- the row (kind, a, last row, 0), and (kind, a, b, last row)
abbrev pub row_of_last : ℕ → ℕ → ℕ → List ℕ
row_of_last k a m = row k a (m - 1) 0

abbrev pub row_of_two : ℕ → ℕ → ℕ → ℕ → List ℕ
row_of_two k a b m = row k a b (m - 1)

-- what was read is within the tokens
abbrev pub Within : List ℕ → Read → Type 0
Within kinds (Ok p) = p.next ≤ length kinds
Within kinds (Err x) = Unit {0}

-- a row fits after what was read
abbrev pub Ready : Read → Type 0
Ready (Ok p) = (0 < p.rows) × (p.rows < 1024)
Ready (Err x) = Unit {0}

-- depths that can be added to
abbrev pub Shallow : Read → Type 0
Shallow (Ok p) = (p.depth ≤ 1024) × (p.deepest ≤ 1024)
Shallow (Err x) = Unit {0}

-- tokens read and rows written so far, within the arrays
pub record Fit (kinds values : List ℕ) (n i : ℕ) : Type 0 where
  pub few : n ≤ i
  pub short : i ≤ length kinds
  pub small : length kinds ≤ 1024
  pub enough : length kinds ≤ length values
