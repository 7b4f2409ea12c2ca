pub mod FloorRows
pub mod Loads
pub mod Totals
pub mod Text
pub mod Words
pub mod Laws
