pub mod PutLaws
pub mod HeardLaws
pub mod VoteLaws
pub mod DecideLaws
