-- Lemmas on programs and on images.
pub mod Programs
pub mod Loading
