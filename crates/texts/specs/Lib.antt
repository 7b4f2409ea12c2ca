pub mod Grammar
pub mod Lines
pub mod Words
pub mod Gives
pub mod Spelling
pub mod Puts
