pub mod CellColors
pub mod Configuration
pub mod Colored
pub mod ChangeLaws
pub mod SameConfiguration
pub mod Options
pub mod EntitiesAligned
pub mod AlikeRows
