-- Laws that rest on the definitions of specs/.
pub mod Demand5Proof
pub mod Demand5Example
