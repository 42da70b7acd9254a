pub mod Rectangles
pub mod Listings
pub mod Coverings
pub mod Choosing
pub mod Sets
pub mod Stepping
pub mod RangeSets
