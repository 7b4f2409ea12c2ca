pub mod Lines
pub mod Starts
pub mod Blocks
pub mod Values
pub mod Flows
pub mod Search
pub mod Inside
