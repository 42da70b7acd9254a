pub mod Corners
pub mod Correction
pub mod Covered
pub mod Picture
pub mod Span
