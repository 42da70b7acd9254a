pub mod Spelled
pub mod Rows
