-- What tests find, what a word means, and that the word comes back.
pub mod Table
pub mod Masks
pub mod Meaning
pub mod Spelled
