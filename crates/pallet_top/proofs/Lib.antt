pub mod Sentences
pub mod Accepted
