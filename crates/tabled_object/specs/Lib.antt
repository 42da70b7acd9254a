pub mod Entities
pub mod Listing
pub mod Chosen
pub mod Ranges
