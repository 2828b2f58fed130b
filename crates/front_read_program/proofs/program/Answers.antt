-- `program` meets its contract, by the laws of specs/Ends.
use native.Mathlib.Omega.{arith}
use Rattle.front_read_expressions.proofs.Passed.{passed}
use Rattle.front_read_program.specs.Ends.{program_front, program_bad, program_left, program_done}
use Rattle.front_read_program.proofs.program.Goals as goal

pub returns-in_err-front : goal.returns-in_err-front
returns-in_err-front c =
    rw (passed _ _ c.from_residual.ensures.1) (program_front c.args.tokens.kinds.now c.args.tokens.values.now _ c.args.table.now c.args.table.now (c.in_err-front.ensures c.args.tokens.values.now))

pub process-requires : goal.process-requires
process-requires c = let f = c.in_ok-front.ensures c.args.tokens.values.now in omega arith

pub returns-in_err-p : goal.returns-in_err-p
returns-in_err-p c =
    rw (passed _ _ c.from_residual-in_err-p.ensures.1)
    (program_bad c.args.tokens.kinds.now c.args.tokens.values.now _ _ _ (c.in_ok-front.ensures c.args.tokens.values.now) c.args.table.now _ c.process.new.table c.in_err-p.ensures.0)

pub returns-then-p-tokens : goal.returns-then-p-tokens
returns-then-p-tokens c =
    program_left c.args.tokens.kinds.now c.args.tokens.values.now _ _ _ (c.in_ok-front.ensures c.args.tokens.values.now) c.args.table.now _ c.process.new.table c.in_ok-p.ensures.0 c.if-p-tokens.true

pub returns : goal.returns
returns c =
    program_done c.args.tokens.kinds.now c.args.tokens.values.now _ _ _ (c.in_ok-front.ensures c.args.tokens.values.now) c.args.table.now _ c.process.new.table c.in_ok-p.ensures.0 c.if-p-tokens.false
