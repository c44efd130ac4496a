pub mod BitsLaws
pub mod WordsReadLaws
pub mod WordsPutLaws
pub mod WordsLaws
