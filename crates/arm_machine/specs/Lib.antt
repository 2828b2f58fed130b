-- Start, step, run, and the trace of array accesses.
pub mod Step
pub mod MachineRun
pub mod Start
pub mod Refusals
pub mod Trace
pub mod Turns
pub mod StepLaws
pub mod UnlistedLaws
pub mod Placed
pub mod Iterations
pub mod RunStill
