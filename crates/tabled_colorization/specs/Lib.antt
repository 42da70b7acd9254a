pub mod Turns
pub mod Same
pub mod Joined
