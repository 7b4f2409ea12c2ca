pub mod Covers
pub mod DesignFiles
pub mod Designing
pub mod DesignRuns
pub mod Laws
