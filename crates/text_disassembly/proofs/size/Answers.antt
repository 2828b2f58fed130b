-- `text_disassembly::size` meets its contract: by what the decoded halfwords are.
-- Assumes nothing.
use Rattle.std.specs.Prelude.{Option}
use Rattle.arm_encoding.specs.declared.Instr.{Instr}
use mathlib.Core.Path.{refl, sym, ap, ◌∙◌}
use borrow.Author.Tests.{lt-ltb, le-ltb}
use Rattle.arm_word.specs.ChoiceLaws.{pick_t, pick_f}
use Rattle.text_disassembly.specs.Disassembly.{bytes, size}
use Rattle.text_disassembly.proofs.size.Goals as goal

pub returns-in-None : goal.returns-in-None
unfolding size
returns-in-None c = ap (λ (d : Option Instr). bytes c.args.first d) (sym c.in-None.is ∙ c.decode.ensures)

pub returns-then-first-lt61440 : goal.returns-then-first-lt61440
unfolding size
returns-then-first-lt61440 c =
    let first = c.args.first in
    pick_t 2 2 4 _ (lt-ltb first 0xF000 c.if-first-lt61440.true) refl
    ∙ ap (λ (d : Option Instr). bytes first d) (sym c.in-Some.is ∙ c.decode.ensures)

pub returns-else-first-lt61440 : goal.returns-else-first-lt61440
unfolding size
returns-else-first-lt61440 c =
    let first = c.args.first in
    pick_f 4 2 4 _ (le-ltb first 0xF000 c.if-first-lt61440.false) refl
    ∙ ap (λ (d : Option Instr). bytes first d) (sym c.in-Some.is ∙ c.decode.ensures)
