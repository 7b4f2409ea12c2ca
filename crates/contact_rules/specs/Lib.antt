pub mod Real
pub mod Shared
pub mod Cut
pub mod Rules
pub mod Steps
