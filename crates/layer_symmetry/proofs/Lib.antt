pub mod TurnSteps
pub mod VariantSteps
pub mod OneList
