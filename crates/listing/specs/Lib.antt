pub mod Answers
pub mod Folded
