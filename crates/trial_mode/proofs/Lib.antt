pub mod Counts
pub mod Accepted
