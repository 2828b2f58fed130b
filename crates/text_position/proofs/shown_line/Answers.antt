-- `text_position::shown_line` meets its contract: the slice that is shown is the definition's, and it fits in a line.
-- Assumes nothing.
use mathlib.Core.Path.{ap, ◌∙◌}
use mathlib.Core.List.{List, [], ◌∷◌, ◌++◌, map}
use Prim.Native.Nat.{ℕ, ◌+◌, ◌-◌, ◌≤◌, min}
use native.Mathlib.Omega.{arith}
use lib.ListN.{length, take, drop, length-take}
use Rattle.text_lines.specs.Text.{written, fitted}
use Rattle.text_lines.specs.LineLaws.{joined}
use Rattle.text_position.specs.Position as spec
use Rattle.text_position.specs.PositionLaws.{shown_part, shown_fits, since_counted, until_counted}
use Rattle.text_position.proofs.shown_line.Goals as goal

pub returns : goal.returns
unfolding spec.shown_line
returns c =
    let at-within = c.min-at in
    let at-since = c.since-left in
    let at-until = c.until-right in
    let at_cut = c.cut-off in
    let at-shown-end = c.shown_end-end in
    let at-empty = c.empty in
    let at-put-shown = c.put_shown in
    let at-put = c.put in
    let x = c.args in
    let s = x.source.now in
    let at = at-within.result in
    let left = at-since.result in
    let off = at_cut.result in
    let e = written at-empty.result in
    let end = at-shown-end.result in
    let low : left ≤ at = omega (arith, at-since.ensures.within, length-take at s) in
    let is-off = at_cut.ensures.0 in
    let is_end = at-shown-end.ensures ∙ ap (λ (k : ℕ). min (at - left + k + spec.width) (at + at-until.result)) is-off in
    let is-left = at-since.ensures.value ∙ since_counted (take at s) in
    let is-right = at-until.ensures.value ∙ until_counted (take (length s - at) (drop at s)) in
    let part = shown_part s x.place at left at-until.result end at-within.ensures is-left is-right low is_end in
    let all = joined e (map spec.shown (take (end - (at - left + off)) (drop (at - left + off) s))) (10 ∷ []) _ _ at-put-shown.ensures at-put.ensures in
    all ∙ ap (λ (l : List ℕ). fitted (l ++ (map spec.shown (take (end - (at - left + off)) (drop (at - left + off) s)) ++ (10 ∷ [])))) at-empty.ensures
    ∙ ap (λ (k : ℕ). fitted (map spec.shown (take (end - (at - left + k)) (drop (at - left + k) s)) ++ (10 ∷ []))) is-off
    ∙ ap (λ (l : List ℕ). fitted (map spec.shown l ++ (10 ∷ []))) part ∙ shown_fits s x.place
