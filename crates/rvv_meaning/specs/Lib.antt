-- What a guest program means.
pub mod Vectors
pub mod Elementwise
pub mod Operations
pub mod Whole
pub mod VectorAccesses
pub mod LoadsAndStores
pub mod Calls
pub mod States
pub mod Allowed
pub mod Images
pub mod Texts
pub mod Scalar
