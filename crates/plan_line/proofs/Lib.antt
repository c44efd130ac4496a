pub mod KindLaws
pub mod ReaderLaws
