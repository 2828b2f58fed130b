-- `front_analysis::names` meets its contract, by the laws of specs/. Assumes nothing.
use Rattle.front_names_table.specs.Held.{held}
use Rattle.front_analysis.specs.Named.{names_accepted, names_row_refused}
use Rattle.front_analysis.proofs.names.Goals as goal

pub returns-in-None : goal.returns-in-None
returns-in-None c =
    let a = c.args in let t = a.tokens in let b = c.bind.new in let sizes = c.in_ok-declared.ensures.0 in
    λ p ready. names_accepted a.source.now t.kinds.now t.places.now t.values.now p a.parsed.start a.parsed.rows a.parsed.deepest a.table.now ready b.table (held b.names sizes) b.names.count
    c.in_ok-declared.declared c.in_ok-declared.ensures.1 c.resolve.new.table c.resolve.result (c.resolve.ensures sizes) c.in-None.is

pub returns-in-Some : goal.returns-in-Some
returns-in-Some c =
    let a = c.args in let t = a.tokens in let b = c.bind.new in let sizes = c.in_ok-declared.ensures.0 in
    λ p ready. names_row_refused a.source.now t.kinds.now t.places.now t.values.now p a.parsed.start a.parsed.rows a.parsed.deepest a.table.now ready b.table (held b.names sizes) b.names.count
    c.in_ok-declared.declared c.in_ok-declared.ensures.1 c.resolve.new.table c.resolve.result (c.resolve.ensures sizes) c.in-Some.refusal c.in-Some.is
