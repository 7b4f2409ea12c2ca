pub mod FirstSigns
pub mod NumberedLines
pub mod ChoiceReaders
pub mod EntryLoop
pub mod TakenEntries
pub mod ChoiceBytes
pub mod Lengths
