pub mod Size
pub mod Node
