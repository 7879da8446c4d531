-- Loads and stores.
pub mod Segments
pub mod Numbering
pub mod Loading
pub mod Staying
pub mod Looping
pub mod Ending
pub mod Finding
pub mod Storing
pub mod Lengths
pub mod Overlaps
pub mod Legal
pub mod Outcomes
pub mod Resuming
pub mod Restoring
pub mod GoingOn
mod Examples
mod RunBytes
mod RunElements
mod RunLoads
mod RunStores
mod RunSteps
