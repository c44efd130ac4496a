pub mod HistoriesListing
pub mod Code
