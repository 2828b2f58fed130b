-- `text_listing::listing` meets its contract: the report's lines of a refused source, the image's of an accepted one, put at the front.
-- Assumes nothing.
use mathlib.Core.Path.{ap, ◌∙◌}
use Rattle.text_buffer.specs.Buffer.{placed}
use Rattle.text_buffer.specs.BufferLaws.{front}
use Rattle.text_listing.specs.Listing.{listing_of}
use Rattle.text_listing.specs.ListingParts.{refused_text, accepted_text}
use Rattle.text_listing.proofs.listing.Goals as goal

pub returns-then-t-ne0 : goal.returns-then-t-ne0
returns-then-t-ne0 c =
    let a = c.args in
    let translated = c.translate-t.ensures in
    let refused = refused_text _ _ _ _ translated c.if-t-ne0.true in
    front a.out.now _ _ (listing_of a.source.now)
    (c.append_line.ensures ∙ ap (placed a.out.now 0) (c.answer_lines.ensures ∙ refused))

pub slice_bounds-code-end : goal.slice_bounds-code-end
slice_bounds-code-end c = (accepted_text _ _ _ _ c.translate-t.ensures c.if-t-ne0.false).within

pub slice_bounds-image_lines-end : goal.slice_bounds-image_lines-end
slice_bounds-image_lines-end c = (accepted_text _ _ _ _ c.translate-t.ensures c.if-t-ne0.false).counted

pub returns : goal.returns
returns c =
    let a = c.args in
    let translated = c.translate-t.ensures in
    let accepted = accepted_text _ _ _ _ translated c.if-t-ne0.false in
    front a.out.now _ _ (listing_of a.source.now)
    (c.image_lines.ensures ∙ ap (placed a.out.now 0) accepted.text)
