-- `program_listing::answer` meets its contract: the text fits the buffer, so that what is written is the listing, whole.
-- Assumes nothing.
use Rattle.std.proofs.Common.{◌≡◌, ◌≤◌, length, min, ℕ, List, le_trans}
use Rattle.text_listing.specs.Listing.{listing_of, listing_limit}
use Rattle.text_listing.specs.ListingParts.{listing_fits}
use Rattle.text_buffer.specs.Buffer.{overwritten}
use Rattle.text_buffer.specs.BufferLaws.{Held, held}
use Rattle.program_listing.proofs.answer.Goals as goal

whole_listing : (source out out' : List ℕ) (n : ℕ) →
    listing_limit ≤ length out →
    (n ≡ min (length (listing_of source)) (length out)) × (out' ≡ overwritten out (listing_of source)) →
    Held out' n (listing_of source)
whole_listing source out out' n h = held out out' n (listing_of source) (le_trans (listing_fits source) h)

pub write-requires : goal.write-requires
write-requires g c = (whole_listing _ c.args.text.now _ _ c.requires c.listing-end.ensures).whole
