pub mod Loops
pub mod Escapes
