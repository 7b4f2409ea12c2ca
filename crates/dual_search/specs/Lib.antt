pub mod Raising
pub mod Positions
pub mod Rounds
pub mod Dual
pub mod Laws
