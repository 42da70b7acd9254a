pub mod Steering
pub mod Line
