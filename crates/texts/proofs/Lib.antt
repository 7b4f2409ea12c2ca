pub mod LineEnds
pub mod Readers
pub mod Parsers
pub mod Bytes
pub mod Growth
pub mod NumberLoop
