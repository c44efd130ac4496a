pub mod Run
pub mod Code
pub mod Blocks
