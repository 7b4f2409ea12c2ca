pub mod Quality
pub mod Searched
pub mod Known
pub mod Listing
