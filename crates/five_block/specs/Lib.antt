pub mod Five
pub mod FirstLevel
pub mod Scan
