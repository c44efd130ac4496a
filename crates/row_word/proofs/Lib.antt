pub mod HeardLaws
pub mod AgreementLaws
