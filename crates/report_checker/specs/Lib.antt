pub mod Places
pub mod Verdicts
pub mod Text
pub mod Laws
