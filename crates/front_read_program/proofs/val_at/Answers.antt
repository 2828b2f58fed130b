-- `val_at` meets its contract: each test is a move of the automaton, or the token where it stops.
use Rattle.std.proofs.Common.{refl, ◌+◌, get_or}
use native.Mathlib.Omega.{arith}
use Rattle.x_grammar.specs.Unread.{inside}
use Rattle.front_read_expressions.proofs.Passed.{passed}
use Rattle.front_read_program.specs.Specifications.{val_no_name, val_no_equal, val_no_constant, val_read_to}
use Rattle.front_read_program.proofs.val_at.Goals as goal

pub returns-in_err-expect : goal.returns-in_err-expect
returns-in_err-expect c =
    let s = c.in_err-expect.ensures in
    rw (passed _ _ c.from_residual.ensures.1) (λ values. rw s.0 (val_no_name _ values c.args.i c.requires.1 s.1))

pub returns-in_err-expect-2 : goal.returns-in_err-expect-2
returns-in_err-expect-2 c =
    let s = c.in_err-expect-2.ensures in
    rw (passed _ _ c.from_residual-in_err-expect-2.ensures.1) (λ values. rw s.0 (val_no_equal _ values c.args.i c.requires.1 c.in_ok-expect.ensures s.1))

pub returns-in_err-expect_constant : goal.returns-in_err-expect_constant
returns-in_err-expect_constant c =
    let s = c.in_err-expect_constant.ensures in
    rw (passed _ _ c.from_residual-in_err-expect_constant.ensures.1)
    (λ values. rw s.0 (val_no_constant _ values c.args.i c.requires.1 c.in_ok-expect.ensures c.in_ok-expect-2.ensures s.1 s.2))

pub returns : goal.returns
returns c =
    let e = c.in_ok-expect_constant.ensures in
    let l = inside c.args.kinds.now (c.args.i + 3) (get_or c.args.kinds.now (c.args.i + 3) 0) refl (omega arith) in
    rw c.end.ensures (λ values. val_read_to _ values c.args.i c.requires.1 c.in_ok-expect.ensures c.in_ok-expect-2.ensures e l)
