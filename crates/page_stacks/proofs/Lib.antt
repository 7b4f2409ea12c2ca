pub mod FormSteps
pub mod PlaceSteps
pub mod PlanRanges
