pub mod MajorityLaws
pub mod ScanLaws
pub mod PlaneLaws
pub mod PackedLaws
pub mod BinLaws
pub mod AgreementLaws
pub mod AtMostTwoLaws
