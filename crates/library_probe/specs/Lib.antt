-- The forms of lines, the names of kinds, their lists, what is told of them, and what is told of words.
pub mod Numbers
pub mod Forms
pub mod Names
pub mod Lists
pub mod Texts
pub mod Answers
