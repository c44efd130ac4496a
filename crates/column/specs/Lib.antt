pub mod Column
pub mod Row
