pub mod Ells
pub mod Cuts
pub mod Keys
pub mod Progress
pub mod States
pub mod Laws
