pub mod Alignment
pub mod Compact
pub mod SideTexts
pub mod Formatting
pub mod Margins
pub mod LeavesColors
