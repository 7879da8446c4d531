-- What a session answers.
pub mod Sessions
