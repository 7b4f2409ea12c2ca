pub mod formers
pub mod Regions
pub mod Parts
pub mod Trees
pub mod Drawing
pub mod Rooted
