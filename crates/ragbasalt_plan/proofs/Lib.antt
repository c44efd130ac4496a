pub mod SizeLaws
pub mod ReadLaws
