pub mod RunSteps
pub mod CellSteps
pub mod SpanSteps
pub mod FewSteps
pub mod AreaSteps
pub mod SweepSteps
