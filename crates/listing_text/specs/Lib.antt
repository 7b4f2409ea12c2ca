pub mod Text
pub mod Ranges
pub mod Words
pub mod Lines
