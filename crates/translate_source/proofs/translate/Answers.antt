-- `translate_source::translate` meets its contract, by the laws of specs/. Assumes nothing.
use lib.ListN.{length}
use Rattle.translate_source.specs.Filled.{found_parts, come_to}
use Rattle.translate_source.proofs.translate.Goals as goal

pub accept-requires : goal.accept-requires
accept-requires c =
    let a = c.args in let x = c.in-Ok.accepted in let f = c.in-Ok.ensures in
    (f.tree, found_parts a.source.now c.analyse.new.table (length a.table.now) (length a.code.now) x.tokens x.rows x.words x.depth f)

pub returns-in-Err : goal.returns-in-Err
returns-in-Err c = let a = c.args in come_to a.source.now a.table.now a.code.now _ _ c.in-Err.ensures c.refuse.ensures

pub returns-in-Ok : goal.returns-in-Ok
returns-in-Ok c =
    let a = c.args in let x = c.in-Ok.accepted in let f = c.in-Ok.ensures in
    let p = found_parts a.source.now c.analyse.new.table (length a.table.now) (length a.code.now) x.tokens x.rows x.words x.depth f in
    come_to a.source.now a.table.now a.code.now _ _ f.outcome (c.accept.ensures f.tree p)
