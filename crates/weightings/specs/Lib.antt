pub mod Line
pub mod Table
pub mod Sums
pub mod Weighting
pub mod Lead
pub mod Family
pub mod Laws
