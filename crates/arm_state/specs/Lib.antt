-- The machine's state and its instructions.
pub mod State
pub mod Stops
pub mod Effects
pub mod Lookup
pub mod Outcome
pub mod KeptFlags
pub mod MachineCore
pub mod MachineCoreLaws
