pub mod Limits
pub mod Tables
pub mod Known
pub mod Sizes
pub mod Accepted
pub mod Earlier
