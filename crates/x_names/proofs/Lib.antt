-- Laws that rest on the definitions of specs/.
pub mod AcceptedNames
pub mod Depths
pub mod Numbered
pub mod ResolvedRows
pub mod Specified
