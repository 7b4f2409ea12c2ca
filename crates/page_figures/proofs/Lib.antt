pub mod Backwards
pub mod Rectangles
