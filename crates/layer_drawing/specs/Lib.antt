pub mod Drawing
pub mod Cells
