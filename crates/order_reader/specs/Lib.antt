pub mod Records
pub mod Refusals
pub mod Columns
pub mod Orders
pub mod Faults
pub mod Instances
pub mod Rows
