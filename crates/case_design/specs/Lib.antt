pub mod Columns
pub mod Briefs
pub mod Sizes
pub mod Designs
pub mod Bests
pub mod Text
pub mod Laws
