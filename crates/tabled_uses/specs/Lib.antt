pub mod Examples
pub mod Lettered
