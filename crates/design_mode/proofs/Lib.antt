pub mod EntryCovers
pub mod Areas
pub mod Shown
pub mod Sizes
pub mod Truth
pub mod Ran
