pub mod FloorReaders
pub mod RowLoop
pub mod TakenRows
pub mod FloorBytes
pub mod Lengths
