-- `text_listing::image_lines` meets its contract. The loop's invariant: the text from `at` on, put at `end`, comes to what the whole text put at the front does.
use Prim.Native.Nat.{◌≤◌, ◌<◌}
use mathlib.Core.Path.{sym, ap, ◌∙◌}
use native.Mathlib.Omega.{arith}
use lib.ListN.{length}
use Rattle.text_lines.specs.Text.{written}
use Rattle.text_disassembly.specs.LineReading.{size_bounds}
use Rattle.text_disassembly.specs.ImageLineLaws.{text_end}
use Rattle.text_buffer.specs.Buffer.{placed}
use Rattle.text_buffer.specs.BufferLaws.{none, kept}
use Rattle.text_listing.specs.ListingParts.{line_put}
use Rattle.text_listing.proofs.image_lines.Goals as goal

pub overflow_add-at-in-loop-at : goal.overflow_add-at-in-loop-at
overflow_add-at-in-loop-at c =
    let first = c.halfword-first.result in
    let second = c.halfword-second.result in
    omega (arith, c.size-at.ensures, size_bounds first second)

pub loop-at-smaller : goal.loop-at-smaller
loop-at-smaller c =
    let first = c.halfword-first.result in
    let second = c.halfword-second.result in
    omega (arith, c.size-at.ensures, size_bounds first second)

pub loop-at-preserved : goal.loop-at-preserved
loop-at-preserved c =
    let l = c.loop-at in
    let image = c.args.image.now in
    let first = c.halfword-first.ensures in
    let second = c.halfword-second.ensures in
    let line = c.line in
    let put = c.append_line-end.ensures in
    let h : l.at < length image = omega arith in (
      l.invariant.0,
      kept l.out _ l.end _ (written line.result) put ∙ l.invariant.1,
      line_put image l.out _ l.at l.end _ _ _ _ _ h first second line.ensures c.size-at.ensures put ∙ l.invariant.2,
    )

pub returns : goal.returns
returns c =
    let l = c.loop-at in
    let image = c.args.image.now in
    let h : length image ≤ l.at = omega arith in
    none l.out l.end ∙ ap (placed l.out l.end) (sym (text_end image l.at h)) ∙ l.invariant.2
