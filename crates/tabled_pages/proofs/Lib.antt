pub mod Allowed
pub mod Counts
pub mod FirstFault
pub mod Lines
pub mod OneLine
pub mod Pages
