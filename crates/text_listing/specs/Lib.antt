-- The listing of a source, and its laws.
pub mod Listing
pub mod ListingParts
pub mod ImageBack
