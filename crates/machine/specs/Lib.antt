-- What the machine's contracts cite beside the definitions of what a program means.
pub mod Moments
pub mod Views
pub mod Answers
pub mod Fields
pub mod Carrying
pub mod Accessing
pub mod Resuming
pub mod Opening
