pub mod BestValues
pub mod Lines
pub mod Bounds
