pub mod Characters
pub mod Clean
pub mod NarrowParts
pub mod Stretches
