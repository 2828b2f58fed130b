-- `text_position::left_of` meets its contract: what was counted before the place, or before the end. Assumes nothing.
use Rattle.std.proofs.Common.{◌≡◌, ap, ◌∙◌, arith, ℕ, List, take, length-take}
use Rattle.text_position.specs.Position as spec
use Rattle.text_position.specs.PositionLaws.{take_within, since_counted}
use Rattle.text_position.proofs.left_of.Goals as goal

pub returns : goal.returns
returns c =
    let s = c.args.source.now in
    let at = c.min.result in
    let same : take at s ≡ take c.args.place s = ap (λ (n : ℕ). take n s) c.min.ensures ∙ take_within c.args.place s in
    (c.since.ensures.value ∙ since_counted (take at s) ∙ ap (λ (l : List ℕ). spec.since l 0) same, omega (arith, c.since.ensures.within, c.min.ensures, length-take at s))
