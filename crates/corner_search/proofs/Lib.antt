pub mod Walking
pub mod Answering
