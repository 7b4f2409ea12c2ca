pub mod Forms
pub mod Ranges
pub mod Text
pub mod Words
pub mod Lines
pub mod Answers
