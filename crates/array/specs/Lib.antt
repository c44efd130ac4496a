pub mod Index
pub mod Word
pub mod Bit
pub mod Code
