pub mod Kilograms
pub mod Rules
pub mod Table
pub mod Counts
pub mod Refused
pub mod Words
