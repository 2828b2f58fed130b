-- Laws that rest on the definitions of specs/.
pub mod Encodable
pub mod ImageRoom
