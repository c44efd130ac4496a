pub mod SpoilLaws
pub mod FrameLaws
