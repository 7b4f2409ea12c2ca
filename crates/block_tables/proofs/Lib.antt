pub mod BoundLemmas
pub mod EntryLemmas
pub mod StepLemmas
pub mod KeepLemmas
pub mod BuildLemmas
pub mod AdmitLemmas
