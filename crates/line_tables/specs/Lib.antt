pub mod Lines
pub mod Least
pub mod Sums
pub mod Laws
