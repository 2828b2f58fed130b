-- `walker_run::open` meets its contract, kind by kind.
-- Assumes nothing.
use mathlib.Core.Path.{ap, ◌∙◌}
use mathlib.Core.List.{◌∷◌}
use native.Mathlib.Omega.{arith}
use lib.ListN.{get_or, length}
use Rattle.x_program.specs.declared.table.Row.{Row}
use Rattle.walker_arrays.specs.declared.item.Item.TheVariants as to
use Rattle.walker_run.specs.Opening.{begins, opens_number, opens_variable, opens_element, opens_monadic, opens_diadic, opens_process}
use Rattle.walker_run.proofs.open.Goals as goal

pub returns-in-3 : goal.returns-in-3
returns-in-3 c =
    λ first old buffer x h d s.
    let b = begins s c.row_at-w.ensures h d in
    opens_number b c.in-3.is (c.push.ensures.room d)

pub returns-in-4 : goal.returns-in-4
returns-in-4 c =
    λ first old buffer x h d s.
    let b = begins s c.row_at-w.ensures h d in
    opens_variable b c.in-4.is (c.word_at.ensures ∙ ap (λ (z : Row). get_or c.args.words.now z.a 0) c.row_at-offset.ensures) (c.push-in-4.ensures.room d)

pub returns-in-5 : goal.returns-in-5
returns-in-5 c =
    λ first old buffer x h d s.
    let b = begins s c.row_at-w.ensures h d in
    let p = c.push-in-5.ensures.room (omega arith) in
    let q = c.push-in-5-2.ensures.room (omega (arith, ap length p)) in
    opens_element b c.in-5.is (q ∙ ap (λ i. to.Check c.args.r ∷ i) p)

pub returns-in-6 : goal.returns-in-6
returns-in-6 c =
    λ first old buffer x h d s.
    let b = begins s c.row_at-w.ensures h d in
    opens_monadic b c.in-6.is (c.push-in-6.ensures.room (omega arith))

pub returns-in-7 : goal.returns-in-7
returns-in-7 c =
    λ first old buffer x h d s.
    let b = begins s c.row_at-w.ensures h d in
    let p = c.push-in-7.ensures.room (omega arith) in
    let q = c.push-in-7-2.ensures.room (omega (arith, ap length p)) in
    opens_diadic b c.in-7.is (q ∙ ap (λ i. to.Begin c.row_at-w.result.c ∷ i) p)

pub returns-in_default : goal.returns-in_default
returns-in_default c =
    λ first old buffer x h d s.
    opens_process (begins s c.row_at-w.ensures h d) (omega arith) (omega arith) (omega arith) (omega arith) (omega arith) (c.open_process.ensures c.args.table.now)
