-- Demands 1, 2 and 3 from source bytes to machine calls.
pub mod Demands
pub mod Starred
pub mod ExportedDemand
