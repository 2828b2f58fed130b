-- `x_spelling::span` meets its contract. The invariant: the run from i is what was passed and the run from j.
use native.Mathlib.Omega.{arith}
use mathlib.Core.Path.{sym, ◌∙◌}
use lib.ListN.{drop, length-drop}
use Rattle.x_spelling.specs.Runs.{span_in, span_out, span_end, span_length}
use Rattle.x_spelling.proofs.span.Goals as goal

pub loop-j-preserved : goal.loop-j-preserved
loop-j-preserved c =
    let turn = c.loop-j in let e = span_in c.args.s.now turn.j c.args.class c.loop-j-test.true (sym c.in_class.ensures ∙ c.if-not-in_class.false) in
    omega arith

pub returns-then-not-in_class : goal.returns-then-not-in_class
returns-then-not-in_class c =
    let turn = c.loop-j in let e = span_out c.args.s.now turn.j c.args.class c.loop-j-test.true (sym c.in_class.ensures ∙ c.if-not-in_class.true) in
    omega arith

pub returns : goal.returns
returns c =
    let e = span_end c.args.s.now c.loop-j.j c.args.class c.loop-j-test.false in
    let h = simp length-drop at (span_length c.args.class (drop c.args.i c.args.s.now)) in omega arith
