-- What is made of a seed and a size: the draws of its numbers, its words, and the image that holds them.
pub mod Draws
pub mod Words
pub mod Images
