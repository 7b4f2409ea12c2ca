pub mod FirstLayer
pub mod EntryFacts
pub mod Acceptance
pub mod Grouped
pub mod PlainText
pub mod Ran
