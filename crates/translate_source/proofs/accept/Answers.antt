-- `translate_source::accept` meets its contract, by the laws of specs/. Assumes nothing.
use native.Mathlib.Omega.{arith}
use mathlib.Core.Path.{sym, subst, ◌∙◌}
use Prim.Native.Nat.{ℕ, ◌-◌, ◌<◌}
use Rattle.x_program.specs.Rows.{table_of}
use Rattle.x_program.specs.TableReadBack.{length_table}
use Rattle.x_program.specs.Table.{process_at}
use Rattle.translate_rules.specs.ImageCode.{image_code}
use Rattle.translate_emit_instructions.specs.Write.{Room}
use Rattle.translate_image_values.specs.Well.{WellProcess}
use Rattle.translate_image.specs.AcceptedTable.{well_table, image_room}
use Rattle.translate_source.specs.Filled.{some_row, accepted_left}
use Rattle.translate_source.proofs.accept.Goals as goal

pub fill_code-end-requires : goal.fill_code-end-requires
fill_code-end-requires c =
    let a = c.args in
    let q = c.requires.0 in let p = c.requires.1 in let e = sym p.rows_are in (
      subst (λ (k : ℕ). 0 < k) e (some_row q),
      (
        subst (λ (k : ℕ). WellProcess a.rows.now (k - 1)) e (well_table q a.rows.now p.sound p.holds (omega (arith, p.fits.rows, p.fits.few))),
        subst (λ (k : ℕ). Room a.code.now 0 (image_code (process_at a.rows.now (k - 1)))) e
            (image_room q a.rows.now p.sound p.holds p.fits.in_code (omega (arith, p.fits.small))),
      ),
    )

pub returns : goal.returns
returns c =
    let fill-table = c.fill_table in
    let a = c.args in
    λ q p. let f = c.fill_code-end.ensures q p.sound p.holds p.rows_are p.fits.in_code in
    accepted_left a.table.now a.code.now a.accepted.tokens a.accepted.rows a.accepted.words a.accepted.depth _ q _ _ p.rows_are p.words_are p.depth_is f.1
    (fill-table.ensures (table_of q) (length_table q ∙ omega (arith, p.rows_are)) p.holds) f.0
