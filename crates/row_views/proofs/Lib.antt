-- What operations make of the elements of a row, and what counts of their bits find.
pub mod Views
pub mod Tags
pub mod Spread
pub mod Elsewhere
pub mod Clips
