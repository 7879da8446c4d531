-- The programs as the code writes them, and what they do.
pub mod Widths
pub mod Copied
pub mod RoundedRange
pub mod Fits
pub mod Computed
pub mod Permuted
pub mod Written
pub mod Keeping
pub mod Placed
pub mod Listing
pub mod Clipped
pub mod Chosen
pub mod Planned
