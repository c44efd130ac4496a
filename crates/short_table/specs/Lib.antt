pub mod ShortTable
