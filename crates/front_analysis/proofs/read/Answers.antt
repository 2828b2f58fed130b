-- `front_analysis::read` meets its contract, by the laws of specs/. Assumes nothing.
use native.Mathlib.Omega.{arith}
use mathlib.Core.Path.{sym, subst}
use Rattle.std.specs.Prelude.{length}
use Rattle.x_verdict.specs.Front.{Outcome}
use Rattle.front_analysis.specs.Analysed.{Analysed}
use Rattle.front_analysis.specs.Parsed.{place_or, refused_at, came, too_deep, small, as_names, ready}
use Rattle.front_analysis.proofs.read.Goals as goal

pub returns-in-Err : goal.returns-in-Err
returns-in-Err c =
    let a = c.args in
    λ o. rw c.ungrammatical.ensures (refused_at a.source.now a.tokens.kinds.now a.tokens.places.now a.tokens.values.now c.requires.1.1.0 c.requires.1.1.1.0 c.in-Err.x.token _
    (sym c.in-Err.ensures.0) (place_or a.tokens.places.now c.in-Err.x.token (length a.source.now)))

pub returns-then-max-gt-DEPTH_LIMIT : goal.returns-then-max-gt-DEPTH_LIMIT
returns-then-max-gt-DEPTH_LIMIT c =
    let a = c.args in
    let k = came a.source.now a.tokens.kinds.now a.tokens.places.now a.tokens.values.now c.requires.1.1.0 c.requires.1.1.1.0 c.in-Ok.p.start
    c.in-Ok.p.rows c.in-Ok.p.depth c.in-Ok.p.deepest a.table.now c.program.new.table
    (sym c.in-Ok.ensures.0) c.in-Ok.ensures.1 in
    λ o. rw c.whole.ensures (too_deep a.source.now a.tokens.kinds.now a.tokens.places.now a.tokens.values.now c.requires.1.1.0 c.requires.1.1.1.0 c.in-Ok.p.start
    c.in-Ok.p.rows c.in-Ok.p.depth c.in-Ok.p.deepest a.table.now c.program.new.table k
    (omega (arith, c.max.ensures, c.if-max-gt-DEPTH_LIMIT.true)))

pub names-requires : goal.names-requires
names-requires c =
    let a = c.args in
    let k = came a.source.now a.tokens.kinds.now a.tokens.places.now a.tokens.values.now c.requires.1.1.0 c.requires.1.1.1.0 c.in-Ok.p.start c.in-Ok.p.rows
    c.in-Ok.p.depth c.in-Ok.p.deepest a.table.now c.program.new.table (sym c.in-Ok.ensures.0) c.in-Ok.ensures.1 in
    small a.source.now a.tokens.kinds.now a.tokens.places.now a.tokens.values.now c.requires.1.1.0 c.requires.1.1.1.0 c.in-Ok.p.start c.in-Ok.p.rows
    c.in-Ok.p.depth c.in-Ok.p.deepest a.table.now c.program.new.table k c.requires.1.0

pub returns-else-max-gt-DEPTH_LIMIT : goal.returns-else-max-gt-DEPTH_LIMIT
returns-else-max-gt-DEPTH_LIMIT c =
    let a = c.args in
    let k = came a.source.now a.tokens.kinds.now a.tokens.places.now a.tokens.values.now c.requires.1.1.0 c.requires.1.1.1.0 c.in-Ok.p.start c.in-Ok.p.rows
    c.in-Ok.p.depth c.in-Ok.p.deepest a.table.now c.program.new.table (sym c.in-Ok.ensures.0) c.in-Ok.ensures.1 in
    λ o. subst (λ (x : Outcome). Analysed x c.names.new.table c.names.result)
    (sym (as_names a.source.now a.tokens.kinds.now a.tokens.places.now a.tokens.values.now c.requires.1.1.0 c.requires.1.1.1.0 c.in-Ok.p.start c.in-Ok.p.rows
    c.in-Ok.p.depth c.in-Ok.p.deepest a.table.now c.program.new.table k
    (omega (arith, c.max.ensures, c.if-max-gt-DEPTH_LIMIT.false))))
    (c.names.ensures k.tree
    (ready a.source.now a.tokens.kinds.now a.tokens.places.now a.tokens.values.now c.requires.1.1.0 c.requires.1.1.1.0 c.in-Ok.p.start c.in-Ok.p.rows
    c.in-Ok.p.depth c.in-Ok.p.deepest a.table.now c.program.new.table k o (omega arith) c.requires.1.0))
