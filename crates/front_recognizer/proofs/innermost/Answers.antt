-- `front_recognizer::innermost` meets its contract, by the laws of specs/Stack.
use Rattle.front_recognizer.specs.Stack.{frames_none, frames_some}
use native.Mathlib.Omega.{arith}
use Prim.Native.Nat.{ℕ, ◌+◌, ◌-◌, ◌*◌}
use mathlib.Core.Path.{refl, ap, ◌≡◌}
use Rattle.std.specs.Prelude.{get_or}
use Rattle.x_program.specs.Layout.{row_words}
use Rattle.front_recognizer.proofs.innermost.Goals as goal

pub returns-then-height-eq0 : goal.returns-then-height-eq0
returns-then-height-eq0 c = rw (frames_none _ _ c.if-height-eq0.true) c.no_frame.ensures

pub returns : goal.returns
returns c =
    let t = c.args.table.now in let n = c.args.height - 1 in
    let first : get_or t (row_words * n + 0) 0 ≡ get_or t (row_words * n) 0 = ap (λ (i : ℕ). get_or t i 0) (omega arith) in
    rw (frames_some t c.args.height n (omega (arith, c.if-height-eq0.false)), c.from.ensures, c.row_at-w.ensures, first) refl
