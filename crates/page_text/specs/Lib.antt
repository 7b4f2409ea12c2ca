pub mod Styles
pub mod Counts
pub mod Rows
pub mod Closing
pub mod Sheets
pub mod Page
