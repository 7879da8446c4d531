-- The operations that mark the elements of a register.
pub mod Operations
