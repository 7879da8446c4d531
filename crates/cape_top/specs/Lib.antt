-- What the top call promises.
pub mod Codes
pub mod Statuses
pub mod Calls
pub mod Reading
pub mod Endings
pub mod Runs
pub mod Debugging
pub mod Promises
