pub mod Adding
pub mod Tests
pub mod CellOutline
pub mod Walk
pub mod Spots
pub mod Gathering
pub mod Made
pub mod OutlineLaws
