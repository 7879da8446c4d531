-- Laws of numbers, of their bits and of lists made place by place.
pub mod Numbers
pub mod Lists
pub mod Digits
pub mod Signed
pub mod Ints
pub mod Rounding
mod Examples
