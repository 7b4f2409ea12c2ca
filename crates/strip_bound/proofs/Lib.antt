pub mod Keeping
pub mod ListSteps
pub mod Pairs
