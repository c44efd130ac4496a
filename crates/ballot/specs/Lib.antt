pub mod Majority
pub mod Plane
pub mod Code
