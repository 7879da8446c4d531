-- The programs of the instructions that make one number of a whole mask or a whole group.
pub mod Kinds
pub mod Programs
pub mod Laws
