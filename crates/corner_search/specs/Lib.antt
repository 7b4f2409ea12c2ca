pub mod Search
pub mod Visiting
