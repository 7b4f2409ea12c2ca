pub mod VerdictFacts
pub mod Copies
pub mod NoReports
pub mod Reports
pub mod Untouched
