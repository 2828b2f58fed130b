-- `text_buffer::append` meets its contract: a full buffer takes nothing, else as much was copied as there is room for. Assumes nothing.
use mathlib.Core.Path.{◌≡◌, ap, ◌∙◌}
use Prim.Native.Nat.{ℕ, ◌+◌, ◌-◌}
use mathlib.Core.List.{◌++◌}
use native.Mathlib.Omega.{arith}
use lib.ListN.{take, drop}
use lib.Seq.{drop-drop}
use Rattle.text_buffer.specs.Buffer.{left}
use Rattle.text_buffer.specs.BufferLaws.{full, copied}
use Rattle.text_buffer.proofs.append.Goals as goal

pub returns-then-out-at : goal.returns-then-out-at
returns-then-out-at c = full c.args.out.now c.args.at c.args.text.now c.if-out-at.true

pub returns : goal.returns
returns c =
    let x = c.args in
    let n = c.min-n.result in
    let k : x.at + n - x.at ≡ n = omega arith in
    let behind : drop (x.at + n - x.at) (drop x.at x.out.now) ≡ drop (x.at + n) x.out.now = ap (λ (m : ℕ). drop m (drop x.at x.out.now)) k ∙ drop-drop n x.at x.out.now in
    (λ j. left (take x.at x.out.now ++ (c.copy_from_slice.ensures.after j ++ behind j)) (x.at + n))
    ∙ copied x.out.now x.at x.text.now n (omega arith) c.min-n.ensures
