-- What the commands of a session mean.
pub mod Sittings
pub mod Commands
