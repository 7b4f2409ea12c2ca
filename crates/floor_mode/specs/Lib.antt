pub mod Totals
pub mod FloorsFiles
pub mod Planning
pub mod FloorRuns
pub mod Reading
pub mod Judging
pub mod CheckRuns
pub mod Laws
