-- Laws that rest on the definitions of specs/.
pub mod Begin
pub mod Demand3Proof
pub mod Demand4Proof
pub mod Demand3Example
pub mod Demand4Example
