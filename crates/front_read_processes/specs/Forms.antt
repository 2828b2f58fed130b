-- The parts that the readers of processes read. Definitions; rests on the grammar and on the form of a part.
use Rattle.std.specs.Prelude.{◌≡◌, List, ℕ, ◌<◌, ◌≤◌, length, get_or}
use Rattle.x_spelling.specs.Kinds as kind
use Rattle.x_grammar.specs.Grammar.{Process, Processes, braces}
use Rattle.x_grammar.specs.Automaton.{ProcessContext, in_braces, ListContext, list_base, list_built, need_process, have_process}
use Rattle.x_grammar.specs.RawRows.{count_process, count_processes, rows_process, rows_processes}
use Rattle.x_grammar.specs.TreeDepth.{depth_process, depth_processes, deepest_process, deepest_processes}
use Rattle.front_read_expressions.specs.Reads.{Form}

abbrev pub process_form : Form
process_form = record
    { Tree = Process; count = count_process; rows = rows_process; depth = depth_process; deepest = deepest_process; Context = ProcessContext; need = need_process; have = have_process }

-- the processes after an opening brace, and the closing brace
abbrev pub list_form : Form
list_form = record {
  Tree = Processes;
  count = count_processes;
  rows = rows_processes;
  depth = depth_processes;
  deepest = deepest_processes;
  Context = ListContext;
  need = λ k. need_process (in_braces k);
  have = λ ps k. have_process (braces (list_built k ps)) (list_base k);
}

-- the tokens from i on, up to j, are comments
pub record Comments (kinds : List ℕ) (i j : ℕ) : Type 0 where
  pub from : i ≤ j
  pub short : j ≤ length kinds
  pub all : (x : ℕ) → i ≤ x → x < j → get_or kinds x 0 ≡ kind.comment
