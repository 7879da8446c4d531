-- The frame of the instructions that make a mask from groups of elements: the operations that stand round what tells a
-- truth of each element, what they make of the registers, and the laws of it.
pub mod Programs
pub mod Telling
pub mod Laws
pub mod Costs
