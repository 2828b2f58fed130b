-- The grammar of X.
pub mod Grammar
pub mod Automaton
pub mod TreeDepth
pub mod Nesting
pub mod RawRows
pub mod TokenArrays
pub mod AutomatonMoves
pub mod SpecificationMoves
pub mod AutomatonSound
pub mod AutomatonComplete
pub mod FirstBad
pub mod GrammarExact
pub mod RawRowLaws
pub mod Unread
pub mod GrammarCases
pub mod RawRowCount
