-- Laws that rest on the definitions of specs/.
pub mod DemandsProof
pub mod ExportedProof
pub mod DemandsExample
