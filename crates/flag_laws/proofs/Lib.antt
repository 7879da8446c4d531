-- The operations of a table step leave the control numbers.
pub mod Tables
