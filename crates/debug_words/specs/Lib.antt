-- What the lines of a session are.
pub mod Lines
pub mod Grammar
