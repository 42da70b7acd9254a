pub mod Numerals
pub mod Cells
pub mod Columns
pub mod Values
pub mod Options
pub mod Words
pub mod Sides
pub mod Surroundings
