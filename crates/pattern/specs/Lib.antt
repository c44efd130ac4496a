pub mod Pattern
pub mod Constant
