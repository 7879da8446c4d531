pub mod Supported
pub mod Configured
pub mod Lengths
