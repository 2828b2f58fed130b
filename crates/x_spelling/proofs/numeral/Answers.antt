-- `x_spelling::numeral` meets its contract. The invariant: cut off at 2^32, the whole number is what the digits left make after those read.
use native.Mathlib.Omega.{arith}
use mathlib.Core.Path.{ap, ◌∙◌}
use Prim.Native.Nat.{ℕ, ◌+◌, ◌*◌, min}
use lib.ListN.{get_or, drop}
use borrow.Author.Tests.{lt-ltb, le-ltb}
use Rattle.x_spelling.specs.Characters as characters
use Rattle.x_spelling.specs.Runs.{numeral_in, numeral_out, numeral_end, numeral_cut}
use Rattle.x_spelling.proofs.numeral.Goals as goal

pub loop-j-preserved : goal.loop-j-preserved
loop-j-preserved c = let loop-test = c.loop-j-test in let turn = c.loop-j in
    let s = c.args.s.now in let base = c.args.base in let a = turn.a in let j = turn.j in
    let v = c.digit_value-digit.ensures in
    let e = numeral_in s j base a loop-test.true (rw (← v) (lt-ltb _ _ c.if-digit-base.false)) in (
      omega arith,
      turn.invariant.1 ∙ ap (λ (n : ℕ). min n 4294967296) e
          ∙ numeral_cut base c.requires.0 (drop (j + 1) s) (a * base + characters.digit_value (get_or s j 0)) c.pushed-a.result (rw (← v) (omega arith)),
    )

pub returns-then-digit-base : goal.returns-then-digit-base
returns-then-digit-base c = let turn = c.loop-j in let s = c.args.s.now in
    let v = c.digit_value-digit.ensures in
    let e = numeral_out s turn.j c.args.base turn.a c.loop-j-test.true (rw (← v) (le-ltb _ _ c.if-digit-base.true)) in omega arith

pub returns : goal.returns
returns c = let e = numeral_end c.args.s.now c.loop-j.j c.args.base c.loop-j.a c.loop-j-test.false in omega arith
