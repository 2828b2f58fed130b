-- `specifications` meets its contract, by the laws of specs/Specifications.
use Rattle.std.proofs.Common.{sym, ◌∙◌, [], Ok, Err}
use native.Mathlib.Omega.{arith}
use Rattle.x_spelling.specs.Kinds as kind
use Rattle.x_grammar.specs.Unread.{inside}
use Rattle.front_read_expressions.proofs.Passed.{passed}
use Rattle.front_read_program.specs.Specifications.{front_process, front_comment, front_specification}
use Rattle.front_read_program.proofs.specifications.Goals as goal

pub loop-front-preserved-in-3 : goal.loop-front-preserved-in-3
loop-front-preserved-in-3 c =
    let v = c.loop-front in let z = v.invariant in let e = sym c.kind_at.ensures ∙ c.in-3.is in
    let l = inside c.args.kinds.now v.front.process kind.comment e (omega arith) in
    (omega arith, omega arith, λ values r h. z.2 values r (front_comment _ values v.front.process v.front.rows v.front.start r e h))

pub returns-in_err-s-in-13-to-15 : goal.returns-in_err-s-in-13-to-15
returns-in_err-s-in-13-to-15 c = rw (passed _ _ c.from_residual.ensures.1) (λ values. c.loop-front.invariant.2 values (Err _) (c.in_err-s-in-13-to-15.ensures values))

pub overflow_add-front-in-13-to-15 : goal.overflow_add-front-in-13-to-15
overflow_add-front-in-13-to-15 c = let v = c.loop-front in let z = v.invariant in let h = c.in_ok-s-in-13-to-15.ensures [] in omega arith

pub loop-front-smaller : goal.loop-front-smaller
loop-front-smaller c = let v = c.loop-front in let z = v.invariant in let h = c.in_ok-s-in-13-to-15.ensures [] in omega arith

pub loop-front-preserved : goal.loop-front-preserved
loop-front-preserved c =
    let v = c.loop-front in let z = v.invariant in let h = c.in_ok-s-in-13-to-15.ensures [] in (
      h.short,
      omega arith,
      λ values r g. z.2 values r (front_specification _ values v.front.process v.front.rows v.front.start _ _ (c.in_ok-s-in-13-to-15.ensures values) r g),
    )

pub returns-in_default : goal.returns-in_default
returns-in_default c =
    let v = c.loop-front in let z = v.invariant in
    λ values. z.2 values (Ok v.front) (front_process _ values v.front.process v.front.rows v.front.start z.0 (λ e. omega arith) (λ e. omega arith) (λ e. omega arith) (λ e. omega arith))

pub returns-in_default-2 : goal.returns-in_default-2
returns-in_default-2 c =
    let v = c.loop-front in let z = v.invariant in
    λ values. z.2 values (Ok v.front) (front_process _ values v.front.process v.front.rows v.front.start z.0 (λ e. omega arith) (λ e. omega arith) (λ e. omega arith) (λ e. omega arith))
