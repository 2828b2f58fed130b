-- `text_position::caret_line` meets its contract: spaces, the caret and a line feed were added to an empty line, and they fit.
-- Assumes nothing.
use mathlib.Core.Path.{◌≡◌, ap, ◌∙◌}
use mathlib.Core.List.{List, [], ◌∷◌, ◌++◌}
use Prim.Native.Nat.{ℕ, ◌-◌}
use Rattle.text_lines.specs.Text.{written, fitted}
use Rattle.text_lines.specs.LineLaws.{joined}
use Rattle.text_position.specs.Position as spec
use Rattle.text_position.specs.PositionLaws.{caret_fits}
use Rattle.text_position.proofs.caret_line.Goals as goal

pub returns : goal.returns
unfolding spec.caret_line
returns c =
    let x = c.args in
    let left = c.left_of-left.result in
    let n = left - c.cut.result in
    let e = written c.empty.result in
    let spaced = written c.put_spaces.result in
    let is-n : n ≡ spec.left_of x.source.now x.place - spec.cut (spec.left_of x.source.now x.place) =
    ap (λ (k : ℕ). left - k) c.cut.ensures.0 ∙ ap (λ (k : ℕ). k - spec.cut k) c.left_of-left.ensures.0 in
    let all = joined e (spec.spaces n) (94 ∷ 10 ∷ []) spaced _ c.put_spaces.ensures (joined spaced (94 ∷ []) (10 ∷ []) _ _ c.put.ensures c.put-2.ensures) in
    all ∙ ap (λ (l : List ℕ). fitted (l ++ (spec.spaces n ++ (94 ∷ 10 ∷ [])))) c.empty.ensures
    ∙ ap (λ (k : ℕ). fitted (spec.spaces k ++ (94 ∷ 10 ∷ []))) is-n ∙ caret_fits x.source.now x.place
