pub mod Sides
pub mod Forms
pub mod Slabs
pub mod Stack
pub mod Laws
