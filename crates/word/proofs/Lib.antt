pub mod WordLaws
pub mod ZeroLaws
pub mod FieldLaws
