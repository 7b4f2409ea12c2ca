pub mod Places
pub mod Layers
pub mod Totals
pub mod Unmet
pub mod Stacks
