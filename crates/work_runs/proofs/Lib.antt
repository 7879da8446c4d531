-- Each word of a workload is carried out, and the run of all of them.
pub mod Rows
pub mod Meanings
pub mod Legal
pub mod Ready
pub mod Words
pub mod Fetching
pub mod Flows
pub mod Running
pub mod Workloads
