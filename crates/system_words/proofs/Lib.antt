pub mod CodeLaws
pub mod RecordLaws
pub mod GivenLaws
pub mod HeldLaws
