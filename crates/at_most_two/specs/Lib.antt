pub mod AtMostTwo
