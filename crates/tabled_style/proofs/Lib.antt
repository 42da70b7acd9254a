pub mod InPlace
pub mod Inherited
pub mod Decided
pub mod Naming
