-- Lemmas on what programs mean.
pub mod Calling
pub mod Reading
pub mod Allowing
pub mod Elements
mod Examples
mod AccessExamples
