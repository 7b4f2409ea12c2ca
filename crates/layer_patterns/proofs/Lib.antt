pub mod PlaceLemmas
pub mod BoundLemmas
pub mod LayerLemmas
