pub mod WordsLaws
pub mod BackLaws
pub mod GivenLaws
