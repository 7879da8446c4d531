-- Lemmas on moments and runs.
pub mod Starts
pub mod Carried
pub mod Returns
pub mod Showing
pub mod Failing
pub mod Runs
pub mod Modes
pub mod Engine
pub mod Configurations
pub mod Accessed
pub mod Following
pub mod GoingOn
pub mod NextPrograms
pub mod Leaving
pub mod Moving
pub mod Programmed
