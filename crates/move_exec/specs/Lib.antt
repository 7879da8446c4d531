-- The programs of the instructions that read whole groups or whole masks and write elements.
pub mod Bodies
pub mod Frames
pub mod Written
pub mod Moves
pub mod Kinds
pub mod Costs
pub mod Programs
pub mod Laws
