pub mod StoreLaws
pub mod BinsLaws
