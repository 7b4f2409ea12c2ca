pub mod ChainMap
pub mod GreatestChains
pub mod Admits
pub mod Moves
pub mod ListChains
