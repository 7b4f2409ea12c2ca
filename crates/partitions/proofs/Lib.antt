pub mod Pairs
pub mod SameSides
