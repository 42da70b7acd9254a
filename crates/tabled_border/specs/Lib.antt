pub mod Converting
pub mod Border
pub mod Texts
pub mod LentTexts
