pub mod Sheets
pub mod Reports
