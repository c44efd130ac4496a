pub mod StepLaws
pub mod RunLaws
pub mod RowsLaws
pub mod LinesLaws
pub mod NextLaws
pub mod BlockLaws
