-- `var_at` meets its contract: each test is a move of the automaton, or the token where it stops.
use Rattle.front_read_expressions.proofs.Passed.{passed}
use Rattle.front_read_program.specs.Specifications.{var_no_name, var_read_to}
use Rattle.front_read_program.proofs.var_at.Goals as goal

pub returns-in_err-expect : goal.returns-in_err-expect
returns-in_err-expect c =
    let s = c.in_err-expect.ensures in
    rw (passed _ _ c.from_residual.ensures.1) (λ values. rw s.0 (var_no_name _ values c.args.i c.requires.1 s.1))

pub returns : goal.returns
returns c = rw c.end.ensures (λ values. var_read_to _ values c.args.i c.requires.1 c.in_ok-expect.ensures)
