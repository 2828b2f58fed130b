-- `text_position::put_spaces` meets its contract: a space more each time.
use Prim.Native.Nat.{ℕ}
use mathlib.Core.Path.{◌≡◌, ap, ◌∙◌}
use mathlib.Core.List.{List, [], ◌∷◌, ◌++◌}
use lib.ListN.{length}
use borrow.Author.Rules.{rules}
use Rattle.text_lines.specs.Text.{written, fitted}
use Rattle.text_lines.specs.LineLaws.{joined, put_none}
use Rattle.text_position.specs.Position as spec
use Rattle.text_position.specs.PositionLaws.{one_space_more}
use Rattle.text_position.proofs.put_spaces.Goals as goal

pub loop-init : goal.loop-init
loop-init c =
    let x = c.args in
    let e : length x.line.bytes ≡ 128 = search rules in
    put_none x.line.bytes x.line.length e

pub loop-preserved : goal.loop-preserved
loop-preserved c =
    let l = written c.args.line in
    let i = c.loop.counter in
    joined l (spec.spaces i) (32 ∷ []) _ _ c.loop.invariant c.put-l.ensures ∙ ap (λ (r : List ℕ). fitted (l ++ r)) (one_space_more i)
