-- `translate_emit_blocks::jump_over` meets its contract: a jump that reaches its place is four bytes (`jump_size`).
-- Assumes nothing.
use native.Mathlib.Omega.{arith}
use Prim.Native.Nat.{◌+◌, ◌-◌}
use Rattle.translate_rules.specs.Blocks.{jump_over}
use Rattle.translate_rules.specs.Sizes.{jump_size}
use Rattle.translate_emit_blocks.proofs.jump_over.Goals as goal

pub put-requires : goal.put-requires
unfolding jump_over
put-requires c =
    let s = jump_size (c.args.to - (c.args.at + 4)) (omega (arith, c.requires)) in
    record { fits = omega (arith, c.requires); near = omega (arith, c.requires) }
