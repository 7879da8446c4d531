-- What the answers of a session say of what a machine holds.
pub mod ShownTexts
