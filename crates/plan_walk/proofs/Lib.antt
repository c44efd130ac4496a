pub mod WalkLaws
pub mod WalkedLaws
