-- What a run of a workload comes to.
pub mod Stages
pub mod Runs
