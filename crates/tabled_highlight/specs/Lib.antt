pub mod Outline
pub mod Meeting
pub mod Highlighting
pub mod Around
