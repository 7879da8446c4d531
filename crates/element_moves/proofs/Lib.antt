-- What an element of a destination becomes, one after the other, and what stays of the sources.
pub mod Staying
pub mod Coming
pub mod Filling
pub mod Counting
pub mod Moving
pub mod Legal
pub mod Operations
