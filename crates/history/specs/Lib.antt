pub mod Answers
pub mod Listed
