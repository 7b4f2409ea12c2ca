pub mod Accepts
