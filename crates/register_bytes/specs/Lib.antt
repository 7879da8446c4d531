-- The bytes of the registers of a chain.
pub mod Registers
pub mod Rows
