pub mod Line
pub mod Meant
pub mod Refused
pub mod Earlier
pub mod Written
