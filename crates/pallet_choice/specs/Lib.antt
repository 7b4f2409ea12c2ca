pub mod Choices
pub mod Text
pub mod Ranges
pub mod Words
pub mod Lines
pub mod Tails
pub mod Laws
