pub mod StoreLaws
pub mod ReadLaws
pub mod TextLaws
pub mod GivenLaws
