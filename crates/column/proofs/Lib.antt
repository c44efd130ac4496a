pub mod ReadingLaws
pub mod DigitsLaws
pub mod ColumnLaws
pub mod RowLaws
pub mod BufferLaws
pub mod BytesLaws
pub mod BlankLaws
