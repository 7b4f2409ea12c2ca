pub mod NoReports
pub mod Nexts
pub mod Today
pub mod Untouched
