pub mod KnownExample
pub mod AcceptedLaws
pub mod KnownLaws
pub mod PeriodLaws
pub mod EntryLaws
pub mod EarlierLaws
