pub mod Sizes
pub mod Cells
pub mod Changed
pub mod Edited
pub mod EditedColumns
pub mod Numeric
pub mod Found
pub mod Runs
