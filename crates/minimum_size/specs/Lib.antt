pub mod LeastSide
pub mod Reduced
