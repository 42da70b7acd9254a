pub mod Exact
pub mod Lines
pub mod ColoringLemmas
