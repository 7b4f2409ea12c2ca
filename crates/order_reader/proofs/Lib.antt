pub mod Counted
pub mod ReadSoFar
pub mod FindFacts
pub mod OrderFacts
pub mod RowFacts
pub mod InstFacts
pub mod FieldFacts
