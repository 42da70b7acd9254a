pub mod Shown
pub mod Lines
pub mod Same
pub mod Fields
pub mod Changing
pub mod Events
