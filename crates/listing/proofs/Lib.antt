pub mod CallLaws
pub mod FoldedLaws
pub mod EarlierLaws
