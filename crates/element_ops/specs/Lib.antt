-- Elements of vector registers: their places and their numbers.
pub mod Places
pub mod Elements
