-- `text_names::data_head` meets its contract: sort, two numbers and two spaces were added to an empty line.
-- Assumes nothing.
use mathlib.Core.Path.{ap, ◌∙◌}
use mathlib.Core.List.{List, ◌++◌}
use Prim.Native.Nat.{ℕ}
use Rattle.arm_word.specs.Ascii.{ascii}
use Rattle.text_lines.specs.Text.{written, fitted, decimal}
use Rattle.text_lines.specs.LineLaws.{joined}
use Rattle.text_names.specs.Names as spec
use Rattle.text_names.specs.Names.{right, columns}
use Rattle.text_names.proofs.data_head.Goals as goal

pub returns : goal.returns
returns c =
    let x = c.args in
    let e = written c.empty.result in
    let a = written c.put_all.result in
    let b = written c.put_right-placed.result in
    let f = right columns (decimal x.first) in
    let w = right columns (decimal x.words) in
    let all = joined e x.sort.now (f ++ (w ++ ascii "  ")) a _ c.put_all.ensures
    (joined a f (w ++ ascii "  ") b _ c.put_right-placed.ensures (joined b w (ascii "  ") _ _ c.put_right.ensures c.put_all-2.ensures)) in
    all ∙ ap (λ (r : List ℕ). fitted (r ++ spec.data_head x.sort.now x.first x.words)) c.empty.ensures
