pub mod AtMostTwoLaws
