pub mod Trimming
pub mod Measuring
pub mod Boxes
pub mod Fills
pub mod Showing
pub mod Fits
pub mod Printing
