pub mod Margin
pub mod Spans
pub mod TakenBack
pub mod TableSettings
pub mod Same
pub mod Covering
