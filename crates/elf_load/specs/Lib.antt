-- What an image is: its fields, its program headers, what is laid out of it, and the faults that an image may have.
pub mod Fields
pub mod Headers
pub mod Layout
pub mod Faults
pub mod Names
