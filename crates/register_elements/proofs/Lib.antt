-- Bits of registers.
pub mod Bits
