-- Laws that rest on the definitions of specs/.
pub mod SourceLaws
pub mod SplitLaws
