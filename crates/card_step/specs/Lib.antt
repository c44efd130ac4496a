pub mod CardParts
pub mod Calls
