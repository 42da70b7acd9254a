pub mod Count
pub mod Counted
pub mod Same
pub mod SameLaws
