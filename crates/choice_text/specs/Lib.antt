pub mod Text
pub mod Words
pub mod Lines
pub mod Cursors
pub mod Answers
