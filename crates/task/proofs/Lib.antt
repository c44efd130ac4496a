pub mod TaskLaws
pub mod SkipLaws
