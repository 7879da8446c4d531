-- The texts about what a run took, and about the work rows of its slices.
pub mod CountTexts
pub mod WorkTexts
