-- Micro-operations, their replay, and table steps.
pub mod BufValue
pub mod Listing
pub mod ControlNumbers
pub mod Replay
pub mod Folding
pub mod Steps
pub mod Subs
pub mod WorkRows
pub mod Pieces
pub mod Effects
pub mod Tables
pub mod Kinds
pub mod Measures
pub mod Increments
