pub mod Text
pub mod Lines
pub mod Cursors
pub mod Answers
