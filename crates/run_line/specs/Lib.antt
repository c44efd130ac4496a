pub mod Line
pub mod Listing
pub mod Code
