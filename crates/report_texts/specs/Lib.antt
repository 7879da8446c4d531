-- The texts about answers, states and layouts.
pub mod Lines
pub mod Layouts
pub mod StateTexts
