pub mod StepLaws
pub mod MessageLaws
pub mod NodeLaws
pub mod VoteLaws
pub mod AgreementLaws
pub mod AtMostTwoLaws
