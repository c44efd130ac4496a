pub mod StillLaws
pub mod StretchLaws
pub mod FourTicksLaws
pub mod CardFrameLaws
pub mod FlagLaws
