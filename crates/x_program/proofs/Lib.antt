-- Laws that rest on the definitions of specs/.
pub mod TableReadBack
pub mod SoundTable
pub mod ValidTableLaws
