-- `text_names::val_tail` meets its contract: the sign of equality, the value and a line feed were added to an empty line, and they fit.
-- Assumes nothing.
use mathlib.Core.Path.{ap, ◌∙◌}
use mathlib.Core.List.{List, [], ◌∷◌, ◌++◌}
use Prim.Native.Nat.{ℕ}
use Rattle.arm_word.specs.Ascii.{ascii}
use Rattle.text_lines.specs.Text.{written, fitted}
use Rattle.text_lines.specs.LineLaws.{joined}
use Rattle.text_names.specs.Names as spec
use Rattle.text_names.specs.Lines.{tail_fits}
use Rattle.text_names.proofs.val_tail.Goals as goal

pub returns : goal.returns
returns c =
    let x = c.args in
    let e = written c.empty.result in
    let l = written c.put_all.result in
    let all = joined e (ascii " = ") (spec.signed x.w ++ (10 ∷ [])) l _ c.put_all.ensures (joined l (spec.signed x.w) (10 ∷ []) _ _ c.put_signed.ensures c.put.ensures) in
    all ∙ ap (λ (r : List ℕ). fitted (r ++ spec.val_tail x.w)) c.empty.ensures ∙ tail_fits x.w
