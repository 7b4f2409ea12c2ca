pub mod LineSteps
pub mod CellSteps
pub mod BlockSteps
pub mod SumSteps
pub mod LeastSteps
