-- `text_position::put_shown` meets its contract: byte by byte.
use Prim.Native.Nat.{ℕ, ◌<◌}
use mathlib.Core.Path.{◌≡◌, ap, ◌∙◌}
use mathlib.Core.List.{List, [], ◌∷◌, ◌++◌, map}
use native.Mathlib.Omega.{arith}
use lib.ListN.{length, take, get_or}
use borrow.Author.Rules.{rules}
use Rattle.text_lines.specs.Text.{written, fitted}
use Rattle.text_lines.specs.LineLaws.{joined, put_none}
use Rattle.text_position.specs.Position as spec
use Rattle.text_position.specs.PositionLaws.{one_shown_more}
use Rattle.text_position.proofs.put_shown.Goals as goal

pub loop-b-init : goal.loop-b-init
loop-b-init c =
    let x = c.args in
    let e : length x.line.bytes ≡ 128 = search rules in
    put_none x.line.bytes x.line.length e

pub loop-b-preserved : goal.loop-b-preserved
loop-b-preserved c =
    let l = written c.args.line in
    let s = c.args.s.now in
    let i = c.loop-b.b-index in
    let h : i < length s = omega arith in
    joined l (map spec.shown (take i s)) (spec.shown (get_or s i 0) ∷ []) _ _ c.loop-b.invariant
    (c.put-l.ensures ∙ ap (λ (x : ℕ). fitted (written c.loop-b.l ++ (x ∷ []))) c.shown.ensures)
    ∙ ap (λ (r : List ℕ). fitted (l ++ r)) (one_shown_more s i h)
