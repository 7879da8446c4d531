-- Classes of vector instructions, by the operands that they read.
pub mod Operands
pub mod Plain
pub mod Halved
pub mod Compared
