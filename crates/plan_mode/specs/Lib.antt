pub mod OrdersFiles
pub mod Entries
pub mod Groups
pub mod Pieces
pub mod Accepted
pub mod Reports
pub mod Runs
pub mod Laws
