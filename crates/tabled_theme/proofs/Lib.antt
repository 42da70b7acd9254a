pub mod LineMaps
pub mod Left
pub mod Applying
pub mod Decided
