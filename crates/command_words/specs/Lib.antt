-- The grammar of a command line, and the lines that show it.
pub mod Grammar
pub mod Help
