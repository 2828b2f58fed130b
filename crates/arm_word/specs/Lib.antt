-- Words of 32 bits and what every layer shares: choice by a test, lists of ranges, quoted texts, arithmetic on words, entries of the access list.
pub mod Choice
pub mod ChoiceLaws
pub mod Ranges
pub mod RangeLaws
pub mod Word
pub mod Carry
pub mod Access
pub mod Ascii
pub mod WordLaws
pub mod CarryLaws
pub mod Tests
