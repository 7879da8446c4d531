-- Lemmas on pages.
pub mod Rising
pub mod Finding
pub mod Ranges
pub mod InPage
pub mod Loads
pub mod Storing
pub mod Writing
pub mod Meeting
pub mod Laying
pub mod Opening
pub mod Mapping
