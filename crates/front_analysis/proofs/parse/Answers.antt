-- `front_analysis::parse` meets its contract, by the laws of specs/Parsed. Assumes nothing.
use Rattle.std.specs.Prelude.{length}
use Rattle.front_analysis.specs.Parsed.{place_or, recognized_bad, deep_program}
use Rattle.front_analysis.proofs.parse.Goals as goal

pub returns-in-Err-Ungrammatical : goal.returns-in-Err-Ungrammatical
returns-in-Err-Ungrammatical c =
    let a = c.args in let q = c.requires in
    let s = rw c.in-Err-Ungrammatical.field-0-is at c.in-Err-Ungrammatical.ensures in
    λ o. rw c.ungrammatical.ensures (recognized_bad a.source.now a.tokens.kinds.now a.tokens.places.now a.tokens.values.now q.1.1.0 q.1.1.1 c.in-Err-Ungrammatical.x.token _
    (s a.tokens.values.now) (place_or a.tokens.places.now c.in-Err-Ungrammatical.x.token (length a.source.now)))

pub returns-in-Err-Deep : goal.returns-in-Err-Deep
returns-in-Err-Deep c =
    let a = c.args in let q = c.requires in
    let h = rw c.in-Err-Deep.field-0-is at c.in-Err-Deep.ensures in let s = h a.tokens.values.now in
    λ o. rw c.whole.ensures (deep_program a.source.now a.tokens.kinds.now a.tokens.places.now a.tokens.values.now q.1.1.0 q.1.1.1 s.0 s.1 s.2)
