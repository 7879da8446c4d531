-- What the calls of a guest leave, and what they do to the devices.
pub mod Inputs
pub mod Pieces
pub mod Outputs
pub mod Answers
