pub mod Sums
pub mod FloorLoads
pub mod FloorOrders
pub mod FieldRanges
pub mod PlanRanges
pub mod TotalFacts
pub mod TotalWords
pub mod TotalLines
