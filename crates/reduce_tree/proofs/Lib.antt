-- Lemmas on counts of tags and on bits of a number.
pub mod Counting
pub mod Bits
pub mod Totals
pub mod FirstTags
pub mod Firsts
