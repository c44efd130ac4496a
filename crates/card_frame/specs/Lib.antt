pub mod CardFrame
pub mod Flags
