pub mod StartSteps
pub mod SearchSteps
