-- `front_analysis::analyse` meets its contract, by the laws of specs/. Assumes nothing.
use native.Mathlib.Omega.{arith}
use mathlib.Core.Path.{sym, ap, subst, ◌∙◌}
use mathlib.Core.List.{List}
use lib.ListN.{take}
use lib.Seq.{length-take-le}
use Rattle.std.specs.Prelude.{Result, Err}
use Rattle.std.proofs.lemmas.Result.{err_from_is_err_and}
use Rattle.x_tokens.specs.Refusals.{number}
use Rattle.x_tokens.specs.TokenList.{Entry, entries}
use Rattle.x_tokens.specs.declared.refusal.Refusal.{Refusal}
use Rattle.x_verdict.specs.Front.{Outcome, front}
use Rattle.front_analysis.specs.declared.Accepted.{Accepted}
use Rattle.front_analysis.specs.Analysed.{Analysed, Parses}
use Rattle.front_analysis.specs.Arrays.{short_source, entries_take}
use Rattle.front_analysis.specs.Tokened.{scan_refused, short_table, short_code, with_room}
use Rattle.front_analysis.proofs.analyse.Goals as goal

pub returns-in_err-n : goal.returns-in_err-n
returns-in_err-n c =
    let a = c.args in let r = c.in_err-n.field-0.0 in let e = err_from_is_err_and c.from_residual.result c.from_residual.ensures.1 in
    subst (λ (x : Result Accepted Refusal). Analysed (front a.source.now a.table_words a.code_bytes) a.table.now x) (sym (e.1 ∙ ap Err e.2))
    (scan_refused a.source.now a.table_words a.code_bytes (number r.reason) r.place c.in_err-n.ensures.source_value)

pub returns-then-table_words-n : goal.returns-then-table_words-n
returns-then-table_words-n c =
    let a = c.args in
    rw c.whole.ensures (short_table a.source.now a.table_words a.code_bytes c.tokens.new.kinds c.tokens.new.places c.tokens.new.values c.in_ok-n.n
    c.in_ok-n.ensures.source_value c.if-table_words-n.true)

pub returns-then-code_bytes-n : goal.returns-then-code_bytes-n
returns-then-code_bytes-n c =
    let a = c.args in
    rw c.whole-then-code_bytes-n.ensures (short_code a.source.now a.table_words a.code_bytes c.tokens.new.kinds c.tokens.new.places c.tokens.new.values c.in_ok-n.n
    c.in_ok-n.ensures.source_value c.if-table_words-n.false c.if-code_bytes-n.true)

pub parse-requires : goal.parse-requires
parse-requires c =
    let n = c.in_ok-n.n in let t = c.tokens.new in let few = c.in_ok-n.ensures.few in
    let k = length-take-le n t.kinds (omega arith) in let p = length-take-le n t.places (omega arith) in let v = length-take-le n t.values (omega arith) in
    (short_source c.args.source.now _ c.in_ok-n.ensures.source_value, (omega (arith, k, few), (omega (arith, k, p), omega (arith, k, v))))

pub returns : goal.returns
returns c =
    let a = c.args in let n = c.in_ok-n.n in let t = c.tokens.new in let few = c.in_ok-n.ensures.few in
    subst (λ (x : Outcome). Analysed x c.parse.new.table c.parse.result)
    (sym (with_room a.source.now a.table_words a.code_bytes t.kinds t.places t.values n c.in_ok-n.ensures.source_value c.if-table_words-n.false c.if-code_bytes-n.false))
    (subst (λ (es : List Entry). Parses a.source.now es c.parse.new.table c.parse.result)
    (ap (entries (take n t.kinds) (take n t.places) (take n t.values) 0) (length-take-le n t.kinds (omega arith)) ∙ entries_take n t.kinds t.places t.values n 0 (omega arith))
    c.parse.ensures c.in_ok-n.ensures.source_value)
