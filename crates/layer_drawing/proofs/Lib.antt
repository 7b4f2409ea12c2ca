pub mod Painting
pub mod Letters
pub mod Rows
