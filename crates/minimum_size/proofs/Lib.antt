pub mod LeastSides
pub mod Reduced
pub mod Areas
