pub mod Refusal
pub mod Tests
