pub mod WritingLaws
pub mod PrintLaws
pub mod DigitWordLaws
pub mod PaddingLaws
