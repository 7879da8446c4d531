-- Numbers and their bits.
pub mod Numbers
pub mod Lists
pub mod Digits
pub mod Signed
pub mod Rounding
