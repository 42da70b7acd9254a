pub mod Signs
pub mod Rows
pub mod Written
pub mod Lines
