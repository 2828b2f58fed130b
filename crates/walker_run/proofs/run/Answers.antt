-- `walker_run::run` meets its contract: invariant `Walking`: the walk from the start is what is left of it from here.
use mathlib.Core.Path.{ap, ◌∙◌}
use native.Mathlib.Omega.{arith}
use Rattle.walker_run.specs.Handed.{left}
use Rattle.walker_run.specs.Walking.{walking, has_list_room, has_pile_room, walks_on, walk_ends, walk_stops}
use Rattle.walker_run.specs.declared.Walked.{Walked}
use Rattle.walker_run.proofs.run.Goals as goal

pub loop-steps-init : goal.loop-steps-init
loop-steps-init c = record {
  walking = λ v. walking c.args.limit c.last_row.result v (c.last_row.ensures v.few) c.empty.ensures c.empty-2.ensures;
  settled = λ e. cc;
}

pub returns-in_default : goal.returns-in_default
returns-in_default c =
    let v = c.loop-steps.invariant in
    λ valid.
    ap (λ (r : Walked). left r c.loop-steps.words c.loop-steps.accesses) c.answer.ensures
    ∙ walk_ends (v.walking valid) (omega arith) c.ranges.limit.fits v.settled c.in_default.not-AtRow

pub loop-steps-preserved : goal.loop-steps-preserved
loop-steps-preserved c =
    let v = c.loop-steps.invariant in
    record {
      walking = λ valid.
          let g = v.walking valid in
          let e = c.in-AtRow.is in
          walks_on g c.loop-steps-test.true e
          (c.turn-mode.ensures.shown c.args.first c.args.accesses.now g.point (has_list_room g e) (has_pile_room g e) (rw e at g.shows));
      settled = c.turn-mode.ensures.settled;
    }

pub returns : goal.returns
returns c =
    let v = c.loop-steps.invariant in
    λ valid.
    ap (λ (r : Walked). left r c.loop-steps.words c.loop-steps.accesses) c.answer-2.ensures
    ∙ walk_stops (v.walking valid) (omega arith) c.ranges.limit.fits v.settled
