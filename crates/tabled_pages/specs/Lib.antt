pub mod Input
pub mod Refusal
pub mod Style
pub mod Page
