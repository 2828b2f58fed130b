-- `front_names_resolve::resolve` meets its contract, by the laws of specs/. Assumes nothing.
use mathlib.Core.Path.{sym, ap, ◌∙◌}
use Prim.Native.Nat.{ℕ}
use Rattle.x_names.specs.RowComplaints.{lesser_of}
use Rattle.front_names_table.specs.View.{meant, view}
use Rattle.front_names_table.specs.Held.{held}
use Rattle.front_names_resolve.specs.ResolvingWalk.{verdict, judged_by, complaint, walk_turn, walk_end}
use Rattle.front_names_resolve.proofs.resolve.Goals as goal

pub loop-r-preserved : goal.loop-r-preserved
loop-r-preserved c =
    let l = c.loop-r in let x = c.args in λ sizes.
    sym (walk_turn x.source.now x.tokens.places.now x.tokens.values.now (view x.source.now (held x.names.now sizes) x.names.now.count) l.table
    c.resolve_row.new.table l.r x.end (verdict l.least) (verdict c.lesser-least.result) c.row_at-raw.result c.number-p.result c.number-n.result (meant c.stands_for-m.result)
    c.loop-r-test.true c.row_at-raw.ensures c.number-p.ensures c.number-n.ensures (c.stands_for-m.ensures sizes) c.resolve_row.ensures
    (c.lesser-least.ensures ∙ ap (lesser_of (verdict l.least)) (c.complaint_at.ensures
    ∙ ap (λ (n : ℕ). judged_by n c.number-p.result) (c.complaint.ensures ∙ ap (complaint _) c.sort_of.ensures)))) ∙ l.invariant sizes

pub returns : goal.returns
returns c =
    let l = c.loop-r in let x = c.args in λ sizes.
    sym (walk_end x.source.now x.tokens.places.now x.tokens.values.now (view x.source.now (held x.names.now sizes) x.names.now.count) l.table l.r
    x.end (verdict l.least) c.loop-r-test.false) ∙ l.invariant sizes
