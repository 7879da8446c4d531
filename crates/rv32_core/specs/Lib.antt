-- What the parameters of this crate's functions stand for.
pub mod Loaded
pub mod Update
pub mod Keeping
