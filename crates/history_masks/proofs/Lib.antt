pub mod HistoryLaws
pub mod BoundLaws
pub mod MostLaws
pub mod CodeLaws
pub mod LimitsLaws
