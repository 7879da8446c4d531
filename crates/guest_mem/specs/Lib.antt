-- Guest memory: pages by their numbers, permissions, the memory of a list of regions, and the break.
pub mod Pages
pub mod Indexes
pub mod Ranges
pub mod Spans
pub mod Opening
pub mod Laying
pub mod Mapping
