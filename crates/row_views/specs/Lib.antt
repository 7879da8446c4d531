-- Elements by their places in a row, the lists that count their bits, and when a list sets the flag of clipped results.
pub mod Views
pub mod Lists
pub mod Clips
