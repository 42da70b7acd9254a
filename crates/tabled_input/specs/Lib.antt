pub mod Input
pub mod Joined
pub mod Lines
pub mod Quoted
pub mod Reading
pub mod Selection
pub mod Spaced
pub mod Written
