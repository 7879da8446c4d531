-- What loads and stores do to the registers of a chain and to memory.
pub mod Views
pub mod Steps
pub mod Resumption
pub mod Runs
