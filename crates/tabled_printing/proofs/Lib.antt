pub mod LookLemmas
pub mod LineLemmas
pub mod MarkLemmas
pub mod AlikeLemmas
pub mod ViewedLemmas
pub mod Straight
pub mod NarrowLemmas
