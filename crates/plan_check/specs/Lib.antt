pub mod CheckListing
