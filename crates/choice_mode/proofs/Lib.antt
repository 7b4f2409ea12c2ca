pub mod EntryScores
pub mod Holding
pub mod Acceptance
pub mod Rightness
pub mod NextVerdict
pub mod Shown
pub mod Due
pub mod Ran
