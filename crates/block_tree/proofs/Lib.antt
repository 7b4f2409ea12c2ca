pub mod RowLemmas
pub mod AreaLemmas
pub mod HeldLemmas
pub mod DrawLemmas
pub mod DrawingLemmas
pub mod TileLemmas
