pub mod Numeral
pub mod Code
