pub mod TableLaws
pub mod PositionLaws
pub mod CamLaws
