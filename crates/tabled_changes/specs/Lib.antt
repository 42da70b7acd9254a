pub mod Resizing
pub mod Compact
pub mod EntitiesColored
