pub mod Scores
pub mod Choosing
pub mod ChooseRuns
pub mod Reading
pub mod Judging
pub mod CheckRuns
pub mod Laws
