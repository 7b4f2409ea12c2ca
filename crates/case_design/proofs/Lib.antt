pub mod SizeLists
pub mod SizeSteps
pub mod SizeOrders
pub mod ColumnFacts
pub mod BestFacts
pub mod BestTexts
pub mod FileFacts
pub mod OneAnswer
