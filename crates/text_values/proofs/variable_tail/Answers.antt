-- `text_values::variable_tail` meets its contract: the word was added to an empty line, and it fits. Assumes nothing.
use mathlib.Core.Path.{ap, ◌∙◌}
use mathlib.Core.List.{List, ◌++◌}
use Prim.Native.Nat.{ℕ}
use Rattle.arm_word.specs.Ascii.{ascii}
use Rattle.text_lines.specs.Text as text
use Rattle.text_lines.specs.Text.{fitted}
use Rattle.text_values.specs.ValueLaws.{variable_fits}
use Rattle.text_values.proofs.variable_tail.Goals as goal

pub returns : goal.returns
returns c =
    let w = c.args.w in
    c.entry.ensures ∙ ap (λ (l : List ℕ). fitted (l ++ text.entry (ascii "=") w)) c.empty.ensures ∙ variable_fits w
