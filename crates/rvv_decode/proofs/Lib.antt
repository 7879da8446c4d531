-- The decoder finds what the table says, no word fits two rows, and the fields of a word give it back.
pub mod Table
pub mod Found
pub mod Spelled
pub mod Masked
