pub mod Histories
pub mod Limits
pub mod Code
