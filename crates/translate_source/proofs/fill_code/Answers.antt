-- `translate_source::fill_code` meets its contract, by the laws of specs/. Assumes nothing.
use mathlib.Core.Path.{subst, ◌∙◌}
use Prim.Native.Nat.{ℕ, ◌-◌}
use Rattle.x_program.specs.Table.{process_at}
use Rattle.translate_rules.specs.ImageCode.{image_code}
use Rattle.translate_emit_instructions.specs.Write.{Wrote}
use Rattle.translate_image.specs.AcceptedTable.{image_filled, image_written}
use Rattle.translate_source.proofs.fill_code.Goals as goal

pub returns : goal.returns
returns c =
    let image = c.image-end in let a = c.args in
    λ q s h e l. let w = subst (λ (k : ℕ). Wrote a.code.now 0 (image_code (process_at a.rows.now (k - 1))) image.new.code image.result) e image.ensures in
    (rw c.clear.ensures.1 at c.clear.ensures.2 ∙ image_filled q a.rows.now s h l w, (image_written q a.rows.now s h w).1)
