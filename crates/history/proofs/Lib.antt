pub mod ListedLaws
pub mod PremiseLaws
pub mod CallLaws
pub mod Worked
